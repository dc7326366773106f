-- Sets of functions into which others are put.
use Rattle.std.proofs.Common.{◌≡◌, ◌<◌, ◌≤◌, ℕ, zero, suc, ◌+◌, ◌==◌, Bool, true, false, ◌&&◌, ◌||◌, List, [], ◌∷◌, length, drop, get_or, slice_set, refl, ap, sym, ◌∙◌, arith}
use Rattle.std.proofs.lemmas.Bool.Decides.{nat_tests}
use Rattle.std.proofs.lemmas.List.{drop_more}
use Rattle.prem_syntax.specs.Reach.{has_number}
use Rattle.prem_names.specs.Reach.Reach.{is_new, with_numbers, followed, called_by_new, with_new}
use Rattle.prem_names.proofs.ReachLemmas.Rounds.{with_none}

or_true : (b : Bool) → (b || true) ≡ true
or_true true = refl
or_true false = refl

pub grouped : (a b c : Bool) → (a || (b || c)) ≡ ((a || b) || c)
grouped true b c = refl
grouped false b c = refl

same_number : (n : ℕ) → (n + 0 == n) ≡ true
same_number n = grind (arith, nat_tests)

other_number : (j n : ℕ) → j < n → (j == n) ≡ false
other_number j n h = grind (arith, nat_tests)

beyond : (j n : ℕ) → (n + suc j == n) ≡ false
beyond j n = grind (arith, nat_tests)

-- a number below all of these functions
later : (ks : List ℕ) (j n : ℕ) (set : List Bool) → j < n → with_numbers (j ∷ ks) n set ≡ with_numbers ks n set
later ks j n [] h = refl
later ks j n (b ∷ bs) h =
    let d = other_number j n h in
    let rest = later ks j (n + 1) bs (omega (arith, h)) in
    λ i. (b || (d i || has_number ks n)) ∷ rest i

put_from : (ks : List ℕ) (n j : ℕ) (set : List Bool) → with_numbers ks n (slice_set set j true) ≡ with_numbers ((n + j) ∷ ks) n set
put_from ks n j [] = refl
put_from ks n zero (b ∷ bs) =
    let e = same_number n in
    let rest = later ks (n + 0) (n + 1) bs (omega arith) in
    ap (λ t. t ∷ with_numbers ks (n + 1) bs) (sym (or_true b)) ∙ sym (λ i. (b || (e i || has_number ks n)) ∷ rest i)
put_from ks n (suc j) (b ∷ bs) =
    let e = beyond j n in
    ap (λ xs. (b || has_number ks n) ∷ xs) (put_from ks (n + 1) j bs ∙ ap (λ k. with_numbers (k ∷ ks) (n + 1) bs) (omega arith))
    ∙ sym (λ i. (b || (e i || has_number ks n)) ∷ with_numbers ((n + suc j) ∷ ks) (n + 1) bs)

pub set_past : (set : List Bool) (k : ℕ) → length set ≤ k → slice_set set k true ≡ set
set_past [] k h = refl
set_past (b ∷ bs) zero h = absurd (omega (arith, h))
set_past (b ∷ bs) (suc k) h = ap (λ xs. b ∷ xs) (set_past bs k (omega (arith, h)))

-- one function is put in, or isn't there
put_one : (ks : List ℕ) (k : ℕ) (set : List Bool) → with_numbers ks 0 (slice_set set k true) ≡ with_numbers (k ∷ ks) 0 set
put_one ks k set = put_from ks 0 k set ∙ ap (λ j. with_numbers (j ∷ ks) 0 set) (omega arith)

pub put_next : (ks : List ℕ) (i k : ℕ) (set next all : List Bool) → i < length ks → k ≡ get_or ks i k → next ≡ slice_set set k true → with_numbers (drop i ks) 0 set ≡ all →
    with_numbers (drop (i + 1) ks) 0 next ≡ all
put_next ks i k set next all inside is made same =
    let left : drop i ks ≡ k ∷ drop (i + 1) ks = drop_more ks i k inside ∙ ap (λ x. x ∷ drop (i + 1) ks) (sym is) in
    ap (with_numbers (drop (i + 1) ks) 0) made ∙ put_one (drop (i + 1) ks) k set ∙ ap (λ xs. with_numbers xs 0 set) (sym left) ∙ same

pub put_all : (n : ℕ) (set : List Bool) → with_numbers [] n set ≡ set
put_all n [] = refl
put_all n (b ∷ bs) = let rest = put_all (n + 1) bs in let b' = with_none b in λ i. b' i ∷ rest i

-- ---- rows of a table

pub no_rows : (before set : List Bool) (k n : ℕ) (xs : List Bool) → with_new [] before set k n xs ≡ xs
no_rows before set k n [] = refl
no_rows before set k n (b ∷ bs) = let rest = no_rows before set k (n + 1) bs in let b' = with_none b in λ i. b' i ∷ rest i

row_new : (callees : List ℕ) (table : List (List ℕ)) (before set : List Bool) (k n : ℕ) (xs : List Bool) → is_new before set k ≡ true →
    with_new table before set (k + 1) n (with_numbers callees n xs) ≡ with_new (callees ∷ table) before set k n xs
row_new callees table before set k n [] e = refl
row_new callees table before set k n (b ∷ bs) e =
    let rest = row_new callees table before set k (n + 1) bs e in
    let others = called_by_new table before set (k + 1) n in
    (λ i. sym (grouped b (has_number callees n) others) i ∷ rest i)
    ∙ sym (λ i. (b || ((e i && has_number callees n) || others)) ∷ with_new (callees ∷ table) before set k (n + 1) bs)

row_old : (callees : List ℕ) (table : List (List ℕ)) (before set : List Bool) (k n : ℕ) (xs : List Bool) → is_new before set k ≡ false →
    with_new table before set (k + 1) n xs ≡ with_new (callees ∷ table) before set k n xs
row_old callees table before set k n [] e = refl
row_old callees table before set k n (b ∷ bs) e =
    let rest = row_old callees table before set k (n + 1) bs e in
    let others = called_by_new table before set (k + 1) n in
    (λ i. (b || others) ∷ rest i)
    ∙ sym (λ i. (b || ((e i && has_number callees n) || others)) ∷ with_new (callees ∷ table) before set k (n + 1) bs)

-- one row is followed, or passed over
pub row_followed : (callees : List ℕ) (table : List (List ℕ)) (before set : List Bool) (k : ℕ) (xs : List Bool) →
    with_new table before set (k + 1) 0 (followed (is_new before set k) callees xs) ≡ with_new (callees ∷ table) before set k 0 xs
row_followed callees table before set k xs = by (is_new before set k) refl
  where
    by : (f : Bool) → is_new before set k ≡ f → with_new table before set (k + 1) 0 (followed f callees xs) ≡ with_new (callees ∷ table) before set k 0 xs
    by true e = row_new callees table before set k 0 xs e
    by false e = row_old callees table before set k 0 xs e
