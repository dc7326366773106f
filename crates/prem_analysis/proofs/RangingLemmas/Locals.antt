-- Locals of a vector are those of the environment that it stands for.
use Rattle.std.proofs.Common.{◌≡◌, Bool, true, false, cond, ℕ, zero, suc, ◌<◌, ◌≤◌, List, [], ◌∷◌, length, get_or, set, refl, ap, ◌∙◌, arith, sym}
use Rattle.std.specs.Prelude.{ℤ, pos, negsuc, ◌≤ℤ◌, int_le}
use Rattle.prem_analysis.proofs.Prelude.{span_of, known_of, env_of, Known as KnownTree, any_of, range_at, at_local, known_at, Span, from_to, whole, within, encloses, Int, and_parts, ints}
use Rattle.prem_ranges.specs.Environment.{Known}

pub range_at_within : (ls : List KnownTree) (k : ℕ) (x : KnownTree) → k < length ls → span_of (get_or ls k x).range ≡ range_at (env_of ls) k
range_at_within [] k x within = absurd (omega arith)
range_at_within (l ∷ ls) zero x within = refl
range_at_within (l ∷ ls) (suc k) x within = range_at_within ls k x (omega arith)

pub range_at_past : (ls : List KnownTree) (k : ℕ) → length ls ≤ k → range_at (env_of ls) k ≡ whole Int
range_at_past [] k past = refl
range_at_past (l ∷ ls) zero past = absurd (omega arith)
range_at_past (l ∷ ls) (suc k) past = range_at_past ls k (omega arith)

pub at_local_within : (ls : List KnownTree) (k : ℕ) (change : Known → Known) (x y : KnownTree) → k < length ls → x ≡ get_or ls k x →
    known_of y ≡ change (known_of x) → env_of (set ls k y) ≡ at_local k change (env_of ls)
at_local_within [] k change x y within is changed = absurd (omega arith)
at_local_within (l ∷ ls) zero change x y within is changed = ap (λ (z : Known). z ∷ env_of ls) (changed ∙ ap (λ (z : KnownTree). change (known_of z)) is)
at_local_within (l ∷ ls) (suc k) change x y within is changed = ap (λ zs. known_of l ∷ zs) (at_local_within ls k change x y (omega arith) is changed)

pub put_within : (ls : List KnownTree) (k : ℕ) (y : KnownTree) → k < length ls → env_of (set ls k y) ≡ at_local k (λ l. known_of y) (env_of ls)
put_within [] k y within = absurd (omega arith)
put_within (l ∷ ls) zero y within = refl
put_within (l ∷ ls) (suc k) y within = ap (λ zs. known_of l ∷ zs) (put_within ls k y (omega arith))

pub known_at_within : (ls : List KnownTree) (k : ℕ) (x : KnownTree) → k < length ls → known_of (get_or ls k x) ≡ known_at (env_of ls) k
known_at_within [] k x within = absurd (omega arith)
known_at_within (l ∷ ls) zero x within = refl
known_at_within (l ∷ ls) (suc k) x within = known_at_within ls k x (omega arith)

pub known_at_past : (ls : List KnownTree) (k : ℕ) → length ls ≤ k → known_at (env_of ls) k ≡ any_of Int
known_at_past [] k past = refl
known_at_past (l ∷ ls) zero past = absurd (omega arith)
known_at_past (l ∷ ls) (suc k) past = known_at_past ls k (omega arith)

pub at_local_past : (ls : List KnownTree) (k : ℕ) (change : Known → Known) → length ls ≤ k → env_of ls ≡ at_local k change (env_of ls)
at_local_past [] k change past = refl
at_local_past (l ∷ ls) zero change past = absurd (omega arith)
at_local_past (l ∷ ls) (suc k) change past = ap (λ zs. known_of l ∷ zs) (at_local_past ls k change (omega arith))

-- a range that is kept, or that passes its kind
pub within_yes : (r r' : Span) → r ≡ r' → encloses (whole Int) r ≡ true → r ≡ within Int r'
within_yes r r' e inside = e ∙ by (encloses (whole Int) r') (ap (encloses (whole Int)) (sym e) ∙ inside)
  where
    by : (b : Bool) → b ≡ true → r' ≡ cond b r' (whole Int)
    by true h = refl
    by false h = cc

pub within_no : (r r' : Span) → r ≡ r' → encloses (whole Int) r ≡ false → whole Int ≡ within Int r'
within_no r r' e outside = by (encloses (whole Int) r') (ap (encloses (whole Int)) (sym e) ∙ outside)
  where
    by : (b : Bool) → b ≡ false → whole Int ≡ cond b r' (whole Int)
    by false h = refl
    by true h = cc

pub below_greatest : (lo hi : ℤ) → encloses (whole Int) (from_to lo hi) ≡ true → hi ≤ℤ pos 2147483647
below_greatest lo hi inside = let parts = and_parts (int_le (negsuc 2147483647) lo) (int_le hi (pos 2147483647)) inside in omega (arith, ints, parts.1)
