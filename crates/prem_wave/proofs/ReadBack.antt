-- A dump gives each signal in each of its cycles the value that it was made of.
use Rattle.std.specs.Prelude.{nat_le, slice_get}
use Rattle.std.proofs.Common.{◌≡◌, ℕ, zero, suc, ◌+◌, ◌-◌, ◌<◌, ◌≤◌, ◌==◌, Bool, true, false, cond, List, [], ◌∷◌, ◌++◌, Option, Some, None, length, refl, ap, sym, ◌∙◌, subst, arith, append-nil}
use Rattle.std.proofs.lemmas.Bool.Decides.{nat_tests}
use Rattle.prem_wave.specs.Dump.{Change, Moment, changes_from, is_known, last_of, moment_at, moments_of, same_value}
use Rattle.prem_wave.proofs.Between.{early}

-- ---- what changes say

-- behind these changes, of a signal that had this value before them
abbrev pub told_by : ℕ → List Change → Option (Option ℕ) → Option (Option ℕ)
told_by k [] before = before
told_by k (c ∷ changes) before = told_by k changes (cond (c.signal == k) (Some c.value) before)

-- the value that moments give a signal in cycle n: that of its last change at or before n
abbrev pub told_at : (k n : ℕ) → List Moment → Option (Option ℕ) → Option (Option ℕ)
told_at k n [] before = before
told_at k n (m ∷ moments) before = told_at k n moments (cond (nat_le m.at n) (told_by k m.changes before) before)

-- ---- one cycle

abbrev or_else : Option (Option ℕ) → Option (Option ℕ) → Option (Option ℕ)
or_else (Some x) o = Some x
or_else None o = o

abbrev no_values : List (Option ℕ)
no_values = []

none_there : (k : ℕ) → slice_get no_values k ≡ None
none_there zero = refl
none_there (suc k) = refl

same_means : (x y : Option ℕ) → same_value x y ≡ true → x ≡ y
same_means None None e = refl
same_means None (Some n) e = absurd (cc)
same_means (Some m) None e = absurd (cc)
same_means (Some m) (Some n) e = ap (λ k. Some k) (grind (arith, nat_tests))

known_means : (o : Option (Option ℕ)) (v : Option ℕ) → is_known o v ≡ true → o ≡ Some v
known_means None v e = absurd (cc)
known_means (Some x) v e = ap (λ y. Some y) (same_means x v e)

-- of a signal before these
others_by : (k j : ℕ) (v : Option ℕ) (changes : List Change) (o : Option (Option ℕ)) (b : Bool) → k < j → told_by k changes o ≡ o →
    told_by k (cond b changes (record { signal = j; value = v } ∷ changes)) o ≡ o
others_by k j v changes o true lt h = h
others_by k j v changes o false lt h =
    let other : (j == k) ≡ false = grind (arith, nat_tests) in
    ap (λ c. told_by k changes (cond c (Some v) o)) other ∙ h

others : (before : List (Option ℕ)) (k j : ℕ) (values : List (Option ℕ)) (o : Option (Option ℕ)) → k < j → told_by k (changes_from before j values) o ≡ o
others before k j [] o lt = refl
others before k j (v ∷ values) o lt =
    others_by k j v (changes_from before (suc j) values) o (is_known (slice_get before j) v) lt (others before k (suc j) values o (omega (arith, lt)))

-- of the first of these
first_by : (j : ℕ) (v : Option ℕ) (changes : List Change) (o : Option (Option ℕ)) (b : Bool) → (b ≡ true → o ≡ Some v) → ((u : Option (Option ℕ)) → told_by j changes u ≡ u) →
    told_by j (cond b changes (record { signal = j; value = v } ∷ changes)) o ≡ Some v
first_by j v changes o true known rest = rest o ∙ known refl
first_by j v changes o false known rest =
    let same : (j == j) ≡ true = grind (arith, nat_tests) in
    ap (λ c. told_by j changes (cond c (Some v) o)) same ∙ rest (Some v)

-- of another one
later_by : (k j : ℕ) (v : Option ℕ) (changes : List Change) (o : Option (Option ℕ)) (b : Bool) → j < k → told_by k (cond b changes (record { signal = j; value = v } ∷ changes)) o ≡ told_by k changes o
later_by k j v changes o true lt = refl
later_by k j v changes o false lt =
    let other : (j == k) ≡ false = grind (arith, nat_tests) in
    ap (λ c. told_by k changes (cond c (Some v) o)) other

changes_told : (before : List (Option ℕ)) (j i k : ℕ) (values : List (Option ℕ)) (o : Option (Option ℕ)) → k ≡ j + i → o ≡ slice_get before k →
    told_by k (changes_from before j values) o ≡ or_else (slice_get values i) o
changes_told before j i k [] o at is = sym (ap (λ x. or_else x o) (none_there i))
changes_told before j zero k (v ∷ values) o at is =
    let here : j ≡ k = omega (arith, at) in
    let P : ℕ → Type 0 = λ n. told_by n (changes_from before j (v ∷ values)) o ≡ Some v in
    subst P here (first_by j v (changes_from before (suc j) values) o (is_known (slice_get before j) v)
    (λ known. is ∙ ap (λ n. slice_get before n) (sym here) ∙ known_means (slice_get before j) v known)
    (λ u. others before j (suc j) values u (omega arith)))
changes_told before j (suc i) k (v ∷ values) o at is =
    later_by k j v (changes_from before (suc j) values) o (is_known (slice_get before j) v) (omega (arith, at))
    ∙ changes_told before (suc j) i k values o (omega (arith, at)) is

-- ---- moments

told_append : (k n : ℕ) (xs ys : List Moment) (o : Option (Option ℕ)) → told_at k n (xs ++ ys) o ≡ told_at k n ys (told_at k n xs o)
told_append k n [] ys o = refl
told_append k n (m ∷ xs) ys o = told_append k n xs ys (cond (nat_le m.at n) (told_by k m.changes o) o)

told_moment : (k n c : ℕ) (changes : List Change) (o : Option (Option ℕ)) → c ≤ n → told_at k n (moment_at c changes) o ≡ told_by k changes o
told_moment k n c [] o le = refl
told_moment k n c (x ∷ changes) o le =
    let yes : nat_le c n ≡ true = grind (arith, nat_tests) in
    ap (λ b. cond b (told_by k (x ∷ changes) o) o) yes

untold_moment : (k n c : ℕ) (changes : List Change) (o : Option (Option ℕ)) → n < c → told_at k n (moment_at c changes) o ≡ o
untold_moment k n c [] o lt = refl
untold_moment k n c (x ∷ changes) o lt =
    let no : nat_le c n ≡ false = grind (arith, nat_tests) in
    ap (λ b. cond b (told_by k (x ∷ changes) o) o) no

longer : (xs ys : List (Option ℕ)) (k : ℕ) → length xs ≤ length ys → or_else (slice_get ys k) (slice_get xs k) ≡ slice_get ys k
longer [] [] k le = ap (λ o. or_else o (slice_get no_values k)) (none_there k) ∙ refl
longer [] (y ∷ ys) zero le = refl
longer [] (y ∷ ys) (suc k) le = ap (or_else (slice_get ys k)) (sym (none_there k)) ∙ longer [] ys k (omega arith)
longer (x ∷ xs) [] k le = absurd (omega (arith, le))
longer (x ∷ xs) (y ∷ ys) zero le = refl
longer (x ∷ xs) (y ∷ ys) (suc k) le = longer xs ys k (omega (arith, le))

module _ (all : ℕ → List (Option ℕ)) (from size : ℕ) (each : (n : ℕ) → length (all n) ≡ size) where
  short_by : (c : ℕ) (b : Bool) → length (cond b (all c) []) ≤ size
  short_by c true = omega (arith, each c)
  short_by c false = omega arith

  short : (c : ℕ) → length (last_of all from c) ≤ size
  unfolding last_of
  short zero = omega arith
  short (suc c) = short_by c (nat_le from c)

  -- up to the cycle behind n, a dump gives the values of its last one
  told_by_last : (k n c : ℕ) (b : Bool) → nat_le from c ≡ b → c ≤ n → told_at k n (moments_of all from c) None ≡ slice_get (last_of all from c) k →
      told_at k n (moments_of all from c ++ cond b (moment_at c (changes_from (last_of all from c) 0 (all c))) []) None ≡ slice_get (cond b (all c) []) k
  told_by_last k n c true e le h =
      let before = told_at k n (moments_of all from c) None in
      told_append k n (moments_of all from c) (moment_at c (changes_from (last_of all from c) 0 (all c))) None
      ∙ told_moment k n c (changes_from (last_of all from c) 0 (all c)) before le
      ∙ changes_told (last_of all from c) 0 k k (all c) before (omega arith) h
      ∙ ap (or_else (slice_get (all c) k)) h
      ∙ longer (last_of all from c) (all c) k (omega (arith, each c, short c))
  told_by_last k n c false e le h =
      ap (λ xs. told_at k n xs None) (append-nil (moments_of all from c)) ∙ h
      ∙ ap (λ xs. slice_get xs k) (early all from c (grind (arith, nat_tests)))

  told_last : (k n c : ℕ) → c ≤ suc n → told_at k n (moments_of all from c) None ≡ slice_get (last_of all from c) k
  unfolding moments_of last_of
  told_last k n zero le = sym (none_there k)
  told_last k n (suc c) le = told_by_last k n c (nat_le from c) refl (omega (arith, le)) (told_last k n c (omega (arith, le)))

  -- and what comes behind n doesn't count
  told_on_by : (k n c : ℕ) (b : Bool) → n < c →
      told_at k n (moments_of all from c ++ cond b (moment_at c (changes_from (last_of all from c) 0 (all c))) []) None ≡ told_at k n (moments_of all from c) None
  told_on_by k n c true lt =
      told_append k n (moments_of all from c) (moment_at c (changes_from (last_of all from c) 0 (all c))) None
      ∙ untold_moment k n c (changes_from (last_of all from c) 0 (all c)) (told_at k n (moments_of all from c) None) lt
  told_on_by k n c false lt = ap (λ xs. told_at k n xs None) (append-nil (moments_of all from c))

  told_on : (k n d : ℕ) → told_at k n (moments_of all from (suc n + d)) None ≡ told_at k n (moments_of all from (suc n)) None
  unfolding moments_of
  told_on k n zero = let e : suc n + 0 ≡ suc n = omega arith in ap (λ c. told_at k n (moments_of all from c) None) e
  told_on k n (suc d) =
      let e : suc n + suc d ≡ suc (suc n + d) = omega arith in
      ap (λ c. told_at k n (moments_of all from c) None) e ∙ told_on_by k n (suc n + d) (nat_le from (suc n + d)) (omega arith) ∙ told_on k n d

  last_there : (n : ℕ) → from ≤ n → last_of all from (suc n) ≡ all n
  unfolding last_of
  last_there n le = let yes : nat_le from n ≡ true = grind (arith, nat_tests) in ap (λ b. cond b (all n) []) yes

  pub read_back : (k n to : ℕ) → from ≤ n → n < to → told_at k n (moments_of all from to) None ≡ slice_get (all n) k
  read_back k n to low high =
      let d = to - suc n in
      let e : to ≡ suc n + d = omega (arith, high) in
      ap (λ c. told_at k n (moments_of all from c) None) e ∙ told_on k n d ∙ told_last k n (suc n) (omega arith) ∙ ap (λ xs. slice_get xs k) (last_there n low)
