-- The text of a cycle.
use Rattle.std.proofs.Common.{◌≡◌, ℕ, true, false, List, [], ◌∷◌, ◌++◌, refl, append-nil}
use Rattle.prem_wave.specs.Changed.{has_changes}
use Rattle.prem_wave.specs.Dump.{Change, changes_text, moment_at, moments_text, time_text}

pub none_at : (n : ℕ) (changes : List Change) → has_changes changes ≡ false → moments_text (moment_at n changes) ≡ []
none_at n [] e = refl
none_at n (c ∷ changes) e = absurd (cc)

pub some_at : (n : ℕ) (changes : List Change) → has_changes changes ≡ true → moments_text (moment_at n changes) ≡ time_text n ++ changes_text changes
some_at n [] e = absurd (cc)
some_at n (c ∷ changes) e = append-nil (time_text n ++ changes_text (c ∷ changes))
