-- Fewer than two words ask for no run.
use Rattle.std.proofs.Common.{◌≡◌, ℕ, ◌<◌, List, [], ◌∷◌, None, length, map, refl, arith}
use Rattle.prem_profile.specs.Words.{run_of}

pub too_few : {A : Type 0} (f : A → List ℕ) (words : List A) → length words < 2 → None ≡ run_of (map f words)
too_few f [] few = refl
too_few f (a ∷ []) few = refl
too_few f (a ∷ b ∷ words) few = absurd (omega (arith, few))
