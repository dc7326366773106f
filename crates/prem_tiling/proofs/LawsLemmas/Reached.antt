-- What marked functions reach in a program with tiles, they reach without.
use Rattle.std.proofs.Common.{◌≡◌, ℕ, zero, suc, ◌+◌, ◌-◌, ◌<◌, ◌≤◌, Bool, true, ◌&&◌, List, [], ◌∷◌, length, refl, ap, sym, ◌∙◌, subst, arith, ◌⊎◌, inl, inr, ⊎_elim, true≢false}
use Rattle.std.proofs.Common.{slice_index_or}
use Rattle.prem_tiling.proofs.Prelude.{has_number, is_in_set, called_by, with_called, reached_by, renumbered, or_cases, and_parts, and_from}
use Rattle.prem_tiling.proofs.LawsLemmas.Tied.{either_left, either_right}

-- ---- one round

in_with : (table : List (List ℕ)) (set : List Bool) (n : ℕ) (xs : List Bool) (i : ℕ) → is_in_set (with_called table set n xs) i ≡ true →
    (is_in_set xs i ≡ true) ⊎ (called_by table set 0 (n + i) ≡ true)
in_with table set n [] i e = absurd (true≢false (sym e))
in_with table set n (x ∷ xs) zero e = let z : n ≡ n + 0 = omega arith in
    ⊎_elim (λ (a : x ≡ true). inl a) (λ (b : called_by table set 0 n ≡ true). inr (ap (called_by table set 0) (sym z) ∙ b))
    (or_cases x (called_by table set 0 n) e)
in_with table set n (x ∷ xs) (suc i) e = let z : n + 1 + i ≡ n + suc i = omega arith in
    ⊎_elim (λ (a : is_in_set xs i ≡ true). inl a) (λ (b : called_by table set 0 (n + 1 + i) ≡ true). inr (ap (called_by table set 0) (sym z) ∙ b))
    (in_with table set (n + 1) xs i e)

with_in : (table : List (List ℕ)) (set : List Bool) (n : ℕ) (xs : List Bool) (i : ℕ) → is_in_set xs i ≡ true → is_in_set (with_called table set n xs) i ≡ true
with_in table set n [] i e = absurd (true≢false (sym e))
with_in table set n (x ∷ xs) zero e = either_left x (called_by table set 0 n) e
with_in table set n (x ∷ xs) (suc i) e = with_in table set (n + 1) xs i e

with_new : (table : List (List ℕ)) (set : List Bool) (n : ℕ) (xs : List Bool) (i : ℕ) → i < length xs → called_by table set 0 (n + i) ≡ true → is_in_set (with_called table set n xs) i ≡ true
with_new table set n [] i lt e = absurd (omega arith)
with_new table set n (x ∷ xs) zero lt e = let z : n ≡ n + 0 = omega arith in either_right x (called_by table set 0 n) (ap (called_by table set 0) z ∙ e)
with_new table set n (x ∷ xs) (suc i) lt e = let z : n + 1 + i ≡ n + suc i = omega arith in with_new table set (n + 1) xs i (omega arith) (ap (called_by table set 0) z ∙ e)

length_with : (table : List (List ℕ)) (set : List Bool) (n : ℕ) (xs : List Bool) → length (with_called table set n xs) ≡ length xs
length_with table set n [] = refl
length_with table set n (x ∷ xs) = ap suc (length_with table set (n + 1) xs)

inside : (xs : List Bool) (i : ℕ) → is_in_set xs i ≡ true → i < length xs
inside [] i e = absurd (true≢false (sym e))
inside (x ∷ xs) zero e = omega arith
inside (x ∷ xs) (suc i) e = let lt = inside xs i e in omega arith

-- who calls a function
record Caller (table : List (List ℕ)) (set : List Bool) (k n : ℕ) : Type 0 where
  m : ℕ
  member : is_in_set set (k + m) ≡ true
  calls : has_number (slice_index_or table m []) n ≡ true

caller : (table : List (List ℕ)) (set : List Bool) (k n : ℕ) → called_by table set k n ≡ true → Caller table set k n
caller [] set k n e = absurd (true≢false (sym e))
caller (callees ∷ table) set k n e = by (or_cases (is_in_set set k && has_number callees n) (called_by table set (k + 1) n) e) (caller table set (k + 1) n)
  where
    by : ((is_in_set set k && has_number callees n) ≡ true) ⊎ (called_by table set (k + 1) n ≡ true) →
        (called_by table set (k + 1) n ≡ true → Caller table set (k + 1) n) → Caller (callees ∷ table) set k n
    by (inl a) next = let p = and_parts (is_in_set set k) (has_number callees n) a in record { m = 0; member = (let z : k + 0 ≡ k = omega arith in ap (is_in_set set) z ∙ p.0); calls = p.1 }
    by (inr b) next = let c = next b in record { m = suc c.m; member = (let z : k + suc c.m ≡ k + 1 + c.m = omega arith in ap (is_in_set set) z ∙ c.member); calls = c.calls }

called : (table : List (List ℕ)) (set : List Bool) (k n m : ℕ) → is_in_set set (k + m) ≡ true → has_number (slice_index_or table m []) n ≡ true → called_by table set k n ≡ true
called [] set k n m a b = absurd (true≢false (sym b))
called (callees ∷ table) set k n zero a b = let z : k ≡ k + 0 = omega arith in
    either_left (is_in_set set k && has_number callees n) (called_by table set (k + 1) n)
    (and_from (is_in_set set k) (has_number callees n) (ap (is_in_set set) z ∙ a) b)
called (callees ∷ table) set k n (suc m) a b = let z : k + 1 + m ≡ k + suc m = omega arith in
    either_right (is_in_set set k && has_number callees n) (called_by table set (k + 1) n) (called table set (k + 1) n m (ap (is_in_set set) z ∙ a) b)

-- ---- all rounds

module _ (table : List (List ℕ)) (start : List Bool) where
  length_reached : (n : ℕ) → length (reached_by table start n) ≡ length start
  length_reached zero = refl
  length_reached (suc n) = length_with table (reached_by table start n) 0 (reached_by table start n) ∙ length_reached n

  later : (a b m : ℕ) → is_in_set (reached_by table start a) m ≡ true → is_in_set (reached_by table start (b + a)) m ≡ true
  later a zero m e = let z : a ≡ 0 + a = omega arith in ap (λ k. is_in_set (reached_by table start k) m) (sym z) ∙ e
  later a (suc b) m e =
      let z : suc b + a ≡ suc (b + a) = omega arith in
      ap (λ k. is_in_set (reached_by table start k) m) z ∙ with_in table (reached_by table start (b + a)) 0 (reached_by table start (b + a)) m (later a b m e)

  pub later_to : (a b m : ℕ) → a ≤ b → is_in_set (reached_by table start a) m ≡ true → is_in_set (reached_by table start b) m ≡ true
  later_to a b m le e = let z : b - a + a ≡ b = omega arith in ap (λ k. is_in_set (reached_by table start k) m) (sym z) ∙ later a (b - a) m e

  one_more : (r m n : ℕ) → n < length start → is_in_set (reached_by table start r) m ≡ true → has_number (slice_index_or table m []) n ≡ true → is_in_set (reached_by table start (suc r)) n ≡ true
  one_more r m n lt e calls =
      with_new table (reached_by table start r) 0 (reached_by table start r) n (let l = length_reached r in omega arith)
      (let z : n ≡ 0 + n = omega arith in ap (called_by table (reached_by table start r) 0) (sym z)
      ∙ called table (reached_by table start r) 0 n m (let y : m ≡ 0 + m = omega arith in ap (is_in_set (reached_by table start r)) (sym y) ∙ e) calls)

  module _ (before : (m n : ℕ) → has_number (slice_index_or table m []) n ≡ true → n < m) where
    -- a member is there as early as its number says
    early : (r m : ℕ) → is_in_set (reached_by table start r) m ≡ true → is_in_set (reached_by table start (length start - suc m)) m ≡ true
    early zero m e = later_to 0 (length start - suc m) m (omega arith) e
    early (suc r) m e = by (in_with table (reached_by table start r) 0 (reached_by table start r) m e) (early r)
      where
        by : (is_in_set (reached_by table start r) m ≡ true) ⊎ (called_by table (reached_by table start r) 0 (0 + m) ≡ true) →
            ((k : ℕ) → is_in_set (reached_by table start r) k ≡ true → is_in_set (reached_by table start (length start - suc k)) k ≡ true) →
            is_in_set (reached_by table start (length start - suc m)) m ≡ true
        by (inl a) next = next m a
        by (inr b) next =
            let z : 0 + m ≡ m = omega arith in
            let c = caller table (reached_by table start r) 0 m (ap (called_by table (reached_by table start r) 0) (sym z) ∙ b) in
            let y : 0 + c.m ≡ c.m = omega arith in
            let member : is_in_set (reached_by table start r) c.m ≡ true = ap (is_in_set (reached_by table start r)) (sym y) ∙ c.member in
            let lt = before c.m m c.calls in
            let room : c.m < length start = (let l = length_reached r in let i = inside (reached_by table start r) c.m member in omega arith) in
            later_to (suc (length start - suc c.m)) (length start - suc m) m (omega arith) (one_more (length start - suc c.m) c.m m (omega arith) (next c.m member) c.calls)

    pub closed : (m n : ℕ) → is_in_set (reached_by table start (length start)) m ≡ true → has_number (slice_index_or table m []) n ≡ true → is_in_set (reached_by table start (length start)) n ≡ true
    closed m n e calls =
        let lt = before m n calls in
        let room : m < length start = (let l = length_reached (length start) in let i = inside (reached_by table start (length start)) m e in omega arith) in
        later_to (suc (length start - suc m)) (length start) n (omega arith) (one_more (length start - suc m) m n (omega arith) (early (length start) m e) calls)

-- ---- with tiles

-- a function that isn't cut, by its number with tiles
pub record Old (first tiles : ℕ) (holds : ℕ → Type 0) (j : ℕ) : Type 0 where
  pub number : ℕ
  pub other : number ≡ first → ⊥
  pub is : j ≡ renumbered first tiles number
  pub fact : holds number

abbrev pub IsTile : ℕ → ℕ → ℕ → Type 0
IsTile first tiles j = (first ≤ j) × (j < first + tiles)

module _ (first tiles : ℕ) (table table' : List (List ℕ)) (start start' : List Bool) (before : (m n : ℕ) → has_number (slice_index_or table m []) n ≡ true → n < m)
    (starts : (j : ℕ) → is_in_set start' j ≡ true → IsTile first tiles j ⊎ Old first tiles (λ n. is_in_set start n ≡ true) j)
    (calls : (m' n' : ℕ) → has_number (slice_index_or table' m' []) n' ≡ true →
    Old first tiles (λ m. IsTile first tiles n' ⊎ Old first tiles (λ n. has_number (slice_index_or table m []) n ≡ true) n') m')
    (apart : (m : ℕ) → (m ≡ first → ⊥) → IsTile first tiles (renumbered first tiles m) → ⊥)
    (alone : (m n : ℕ) → (m ≡ first → ⊥) → (n ≡ first → ⊥) → renumbered first tiles m ≡ renumbered first tiles n → m ≡ n) where
  abbrev pub Reach : ℕ → Type 0
  Reach n = is_in_set (reached_by table start (length start)) n ≡ true

  pub reached_before : (r j : ℕ) → is_in_set (reached_by table' start' r) j ≡ true → IsTile first tiles j ⊎ Old first tiles Reach j
  reached_before zero j e = ⊎_elim (λ (t : IsTile first tiles j). inl t)
      (λ (o : Old first tiles (λ n. is_in_set start n ≡ true) j). inr
      (record { number = o.number; other = o.other; is = o.is; fact = later_to table start 0 (length start) o.number (omega arith) o.fact })) (starts j e)
  reached_before (suc r) j e = by (in_with table' (reached_by table' start' r) 0 (reached_by table' start' r) j e) (reached_before r)
    where
      by : (is_in_set (reached_by table' start' r) j ≡ true) ⊎ (called_by table' (reached_by table' start' r) 0 (0 + j) ≡ true) →
          ((k : ℕ) → is_in_set (reached_by table' start' r) k ≡ true → IsTile first tiles k ⊎ Old first tiles Reach k) →
          IsTile first tiles j ⊎ Old first tiles Reach j
      by (inl a) next = next j a
      by (inr b) next =
          let z : 0 + j ≡ j = omega arith in
          let c = caller table' (reached_by table' start' r) 0 j (ap (called_by table' (reached_by table' start' r) 0) (sym z) ∙ b) in
          let y : 0 + c.m ≡ c.m = omega arith in
          let o = calls c.m j c.calls in
          ⊎_elim (λ (t : IsTile first tiles c.m). absurd (apart o.number o.other (subst (IsTile first tiles) o.is t)))
          (λ (k : Old first tiles Reach c.m).
          let same = alone o.number k.number o.other k.other (sym o.is ∙ k.is) in
          ⊎_elim (λ (t : IsTile first tiles j). inl t)
          (λ (n : Old first tiles (λ n. has_number (slice_index_or table o.number []) n ≡ true) j). inr
          (record {
            number = n.number;
            other = n.other;
            is = n.is;
            fact =
                closed table start before o.number n.number (subst Reach (sym same) k.fact) n.fact;
          })) o.fact)
          (next c.m (ap (is_in_set (reached_by table' start' r)) (sym y) ∙ c.member))
