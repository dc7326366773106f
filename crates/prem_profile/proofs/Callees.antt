-- Functions by their numbers, how many there are, and rows that stand in none.
use Rattle.std.specs.Prelude.{slice_get, slice_index_or, option_map}
use Rattle.std.proofs.Common.{◌≡◌, ℕ, zero, suc, ◌-◌, ◌<◌, List, [], ◌∷◌, ◌++◌, length, map, replicate, refl, ap, arith}
use Rattle.prem_profile.specs.declared.strip.Strip.{Strip as StripTree}
use Rattle.prem_profile.specs.Strips.{Strip, strip_of}
use Rattle.prem_profile.specs.Callgrind.{callee_of}

pub strip_is : (strips : List StripTree) (n : ℕ) → slice_get (map strip_of strips) n ≡ option_map strip_of (slice_get strips n)
strip_is [] zero = refl
strip_is [] (suc n) = refl
strip_is (s ∷ strips) zero = refl
strip_is (s ∷ strips) (suc n) = strip_is strips n

pub callee_is : (strips : List Strip) (number : ℕ) → (number ≡ 0 → ⊥) → slice_get strips (number - 1) ≡ callee_of strips number
callee_is strips zero some = absurd (some refl)
callee_is strips (suc n) some = let e : suc n - 1 ≡ n = omega arith in ap (slice_get strips) e

pub none_first : (n : ℕ) (rest : List ℕ) (row : ℕ) → row < n → slice_index_or (replicate n 0 ++ rest) row 0 ≡ 0
none_first zero rest row lt = absurd (omega (arith, lt))
none_first (suc n) rest zero lt = refl
none_first (suc n) rest (suc row) lt = none_first n rest row (omega (arith, lt))

pub strips_long : (strips : List StripTree) → length strips ≡ length (map strip_of strips)
strips_long [] = refl
strips_long (s ∷ strips) = ap suc (strips_long strips)
