-- Tests of numbers, and lists of zeros.
use Rattle.std.specs.Prelude.{◌==◌, nat_lt, slice_index_or}
use Rattle.std.proofs.Common.{◌≡◌, ℕ, zero, suc, ◌≤◌, ◌<◌, true, false, List, replicate, refl, arith}
use Rattle.std.proofs.lemmas.Bool.Decides.{nat_tests}

pub equal_test : (m n : ℕ) → m ≡ n → (m == n) ≡ true
equal_test m n e = grind (arith, nat_tests)

pub are_equal : (m n : ℕ) → (m == n) ≡ true → m ≡ n
are_equal m n e = grind (arith, nat_tests)

pub more_test : (m n : ℕ) → n < m → (m == n) ≡ false
more_test m n lt = grind (arith, nat_tests)

pub is_less : (m n : ℕ) → nat_lt m n ≡ true → m < n
is_less m n e = grind (arith, nat_tests)

pub is_more : (m n : ℕ) → nat_lt m n ≡ false → n ≤ m
is_more m n e = grind (arith, nat_tests)

pub true_false : true ≡ false → ⊥
true_false e = cc

pub false_true : false ≡ true → ⊥
false_true e = cc

abbrev pub zeros : ℕ → List ℕ
zeros n = replicate n 0

pub zero_at : (n k : ℕ) → slice_index_or (zeros n) k 0 ≡ 0
zero_at zero zero = refl
zero_at zero (suc k) = refl
zero_at (suc n) zero = refl
zero_at (suc n) (suc k) = zero_at n k
