-- Costs that are booked row by row.
use Rattle.std.specs.Prelude.{◌==◌, slice_index_or, slice_set}
use Rattle.std.proofs.Common.{◌≡◌, ℕ, zero, suc, ◌+◌, ◌≤◌, ◌<◌, ◌^◌, true, false, ◌∷◌, replicate, get_or, refl, ap, ap₂, sym, ◌∙◌, arith, List, [], length}
use Rattle.std.proofs.lemmas.Bool.Decides.{nat_tests}
use Rattle.prem_profile.specs.declared.cost.Cost.{Cost}
use Rattle.prem_profile.specs.Spent.{no_cost, plus, where_so}
use Rattle.prem_profile.specs.Account.{Fits, each_row, with_cost}
use Rattle.prem_profile.proofs.Turns.{IsSmall, plus_none}

same_row : (m n : ℕ) → m ≡ n → (m == n) ≡ true
same_row m n e = grind (arith, nat_tests)

other_row : (m n : ℕ) → m < n → (m == n) ≡ false
other_row m n lt = grind (arith, nat_tests)

pub rows_same : (f g : ℕ → Cost) (k n : ℕ) → ((i : ℕ) → k ≤ i → f i ≡ g i) → each_row f k n ≡ each_row g k n
rows_same f g k zero same = refl
rows_same f g k (suc n) same = ap₂ (λ x xs. x ∷ xs) (same k (omega arith)) (rows_same f g (suc k) n (λ i le. same i (omega (arith, le))))

-- a cost in row k + r is booked at place r of the rows from k on
pub with_rows : (f g : ℕ → Cost) (r k n : ℕ) (c : Cost) → ((i : ℕ) → g i ≡ plus (f i) (where_so (k + r == i) c)) → with_cost (each_row f k n) r c ≡ each_row g k n
with_rows f g r k zero c is = refl
with_rows f g zero k (suc n) c is =
    let here : g k ≡ plus (f k) c = is k ∙ ap (λ b. plus (f k) (where_so b c)) (same_row (k + 0) k (omega arith)) in
    let rest : each_row f (suc k) n ≡ each_row g (suc k) n =
    rows_same f g (suc k) n (λ i le. sym (is i ∙ ap (λ b. plus (f i) (where_so b c)) (other_row (k + 0) i (omega (arith, le))) ∙ plus_none (f i))) in
    ap₂ (λ x xs. x ∷ xs) (sym here) rest
with_rows f g (suc r) k (suc n) c is =
    let here : g k ≡ f k = is k ∙ ap (λ b. plus (f k) (where_so b c)) (later_row (k + suc r) k (omega arith)) ∙ plus_none (f k) in
    let next : k + suc r ≡ suc k + r = omega arith in
    ap₂ (λ x xs. x ∷ xs) (sym here) (with_rows f g r (suc k) n c (λ i. is i ∙ ap (λ m. plus (f i) (where_so (m == i) c)) next))
  where
    later_row : (m n : ℕ) → n < m → (m == n) ≡ false
    later_row m n lt = grind (arith, nat_tests)

-- of all rows from the first one on
pub with_row : (f g : ℕ → Cost) (r n : ℕ) (c : Cost) → ((i : ℕ) → g i ≡ plus (f i) (where_so (r == i) c)) → with_cost (each_row f 0 n) r c ≡ each_row g 0 n
with_row f g r n c is =
    let same : r ≡ 0 + r = omega arith in
    with_rows f g r 0 n c (λ i. is i ∙ ap (λ m. plus (f i) (where_so (m == i) c)) same)

pub none_rows : (f : ℕ → Cost) (k n : ℕ) → ((i : ℕ) → f i ≡ no_cost) → replicate n no_cost ≡ each_row f k n
none_rows f k zero none = refl
none_rows f k (suc n) none = ap₂ (λ x xs. x ∷ xs) (sym (none k)) (none_rows f (suc k) n none)

-- what holds of each row, and of nothing, holds at each place
pub at_row : (P : Cost → Type 0) (f : ℕ → Cost) (r k n : ℕ) → ((i : ℕ) → P (f i)) → P no_cost → P (get_or (each_row f k n) r no_cost)
at_row P f r k zero each none = none
at_row P f zero k (suc n) each none = each k
at_row P f (suc r) k (suc n) each none = at_row P f r (suc k) n each none

-- costs of runs of no more than 2^61 cycles fit
pub small_fits : (a b : Cost) → IsSmall (2 ^ 61) a → IsSmall (2 ^ 61) b → Fits a b
small_fits a b h k =
    let i = h.instructions in
    let i' = k.instructions in
    let m = h.misses in
    let m' = k.misses in
    let x = h.backs in
    let x' = k.backs in
    let w = h.within in
    let w' = k.within in
    record {
      instructions = omega (arith, i, i', w, w');
      cycles = omega (arith, w, w');
      misses = omega (arith, m, m', w, w');
      backs = omega (arith, x, x', w, w');
    }

pub small_within : (m n : ℕ) (c : Cost) → m ≤ n → IsSmall m c → IsSmall n c
small_within m n c le h = let w = h.within in record { instructions = h.instructions; misses = h.misses; backs = h.backs; within = omega (arith, w, le) }

pub none_small : (n : ℕ) → IsSmall n no_cost
none_small n = record { instructions = omega arith; misses = omega arith; backs = omega arith; within = omega arith }

-- ---- rows in memory

pub set_past : (xs : List Cost) (r : ℕ) (x : Cost) → length xs ≤ r → xs ≡ slice_set xs r x
set_past [] zero x le = refl
set_past [] (suc r) x le = refl
set_past (y ∷ xs) zero x le = absurd (omega (arith, le))
set_past (y ∷ xs) (suc r) x le = ap (λ ys. y ∷ ys) (set_past xs r x (omega (arith, le)))

pub set_is : (xs : List Cost) (r : ℕ) (c : Cost) → slice_set xs r (plus (slice_index_or xs r no_cost) c) ≡ with_cost xs r c
set_is [] zero c = refl
set_is [] (suc r) c = refl
set_is (x ∷ xs) zero c = refl
set_is (x ∷ xs) (suc r) c = ap (λ ys. x ∷ ys) (set_is xs r c)
