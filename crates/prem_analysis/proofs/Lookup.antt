-- What is found in a list by its number.
use Rattle.std.proofs.Common.{◌≡◌, ℕ, zero, suc, ◌≤◌, List, [], ◌∷◌, length, refl, arith, Some, None}
use Rattle.prem_analysis.proofs.Prelude.{slice_get, slice_index}

pub got_none : {A : Type 0} (l : List A) (i : ℕ) → length l ≤ i → slice_get l i ≡ None
got_none [] i past = refl
got_none (y ∷ ys) zero past = absurd (omega arith)
got_none (y ∷ ys) (suc i) past = got_none ys i (omega arith)

pub number_got : (l : List ℕ) (i x : ℕ) → slice_get l i ≡ Some x → slice_index l i ≡ x
number_got [] i x is = cc
number_got (y ∷ ys) zero x is = let same : y ≡ x = cc in same
number_got (y ∷ ys) (suc i) x is = number_got ys i x is
