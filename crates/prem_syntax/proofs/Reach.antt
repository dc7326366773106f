-- What a function reaches is closed under calls.
use Rattle.std.proofs.Common.{◌≡◌, ℕ, zero, suc, ◌+◌, ◌<◌, ◌≤◌, ◌⊎◌, Bool, true, false, List, [], ◌∷◌, refl, ap, sym, ◌∙◌, subst, inl, inr, ⊎_elim, arith, length, set, replicate, slice_index_or}
use Rattle.std.proofs.lemmas.Bool.{cases_lt, cases_eq, true≢false}
use Rattle.std.proofs.lemmas.List.{get_or-set_same, get_or-set_other, get_or-replicate, length-set, length-replicate, get_or_past}
use Rattle.prem_syntax.specs.Reach.{is_in, with_all, with_all_if, with_callees_below, reach_set, IsAmong, CallsBefore, IsClosed}

-- ---- one more member

member_inside : (s : List Bool) (k : ℕ) → is_in s k ≡ true → k < length s
member_inside s k e = ⊎_elim (λ (lt : k < length s). lt) (λ (le : length s ≤ k). absurd (true≢false (sym e ∙ get_or_past s k false le))) (cases_lt k (length s))

set_keeps : (s : List Bool) (m k : ℕ) → is_in s k ≡ true → is_in (set s m true) k ≡ true
set_keeps s m k e =
    ⊎_elim (λ (same : k ≡ m). ap (is_in (set s m true)) same ∙ get_or-set_same s m true false (subst (λ j. j < length s) same (member_inside s k e)))
    (λ (other : k ≡ m → ⊥). get_or-set_other s m k true false other ∙ e) (cases_eq k m)

pub set_only : (s : List Bool) (m k : ℕ) → is_in (set s m true) k ≡ true → (is_in s k ≡ true) ⊎ (m ≡ k)
set_only s m k e =
    ⊎_elim (λ (same : k ≡ m). inr (sym same)) (λ (other : k ≡ m → ⊥). inl (sym (get_or-set_other s m k true false other) ∙ e)) (cases_eq k m)

-- ---- several

all_keep : (ns : List ℕ) (s : List Bool) (k : ℕ) → is_in s k ≡ true → is_in (with_all ns s) k ≡ true
all_keep [] s k e = e
all_keep (n ∷ ns) s k e = all_keep ns (set s n true) k (set_keeps s n k e)

all_long : (ns : List ℕ) (s : List Bool) → length (with_all ns s) ≡ length s
all_long [] s = refl
all_long (n ∷ ns) s = all_long ns (set s n true) ∙ length-set s n true

all_add : (ns : List ℕ) (s : List Bool) (c : ℕ) → c < length s → IsAmong c ns → is_in (with_all ns s) c ≡ true
all_add [] s c lt h = absurd h
all_add (n ∷ ns) s c lt h =
    ⊎_elim (λ (same : n ≡ c). all_keep ns (set s n true) c (ap (is_in (set s n true)) (sym same) ∙ get_or-set_same s n true false (omega arith)))
    (λ (i : IsAmong c ns). all_add ns (set s n true) c (omega (arith, length-set s n true)) i) h

pub all_only : (ns : List ℕ) (s : List Bool) (k : ℕ) → is_in (with_all ns s) k ≡ true → (is_in s k ≡ true) ⊎ IsAmong k ns
all_only [] s k e = inl e
all_only (n ∷ ns) s k e =
    ⊎_elim (λ (h : is_in (set s n true) k ≡ true). ⊎_elim (λ (a : is_in s k ≡ true). inl a) (λ (b : n ≡ k). inr (inl b)) (set_only s n k h))
    (λ (i : IsAmong k ns). inr (inr i)) (all_only ns (set s n true) k e)

if_keep : (b : Bool) (ns : List ℕ) (s : List Bool) (k : ℕ) → is_in s k ≡ true → is_in (with_all_if b ns s) k ≡ true
if_keep true ns s k e = all_keep ns s k e
if_keep false ns s k e = e

if_only : (b : Bool) (ns : List ℕ) (s : List Bool) (k : ℕ) → is_in (with_all_if b ns s) k ≡ true → (is_in s k ≡ true) ⊎ IsAmong k ns
if_only true ns s k e = all_only ns s k e
if_only false ns s k e = inl e

pub if_long : (b : Bool) (ns : List ℕ) (s : List Bool) → length (with_all_if b ns s) ≡ length s
if_long true ns s = all_long ns s
if_long false ns s = refl

-- ---- down to number 0

below_keep : (t : List (List ℕ)) (n : ℕ) (s : List Bool) (k : ℕ) → is_in s k ≡ true → is_in (with_callees_below t n s) k ≡ true
below_keep t zero s k e = e
below_keep t (suc n) s k e = below_keep t n _ k (if_keep (is_in s n) (slice_index_or t n []) s k e)

-- the step of number n adds nothing from n on
step_only : (t : List (List ℕ)) (n : ℕ) (s : List Bool) (k : ℕ) → CallsBefore t → n ≤ k → is_in (with_all_if (is_in s n) (slice_index_or t n []) s) k ≡ true → is_in s k ≡ true
step_only t n s k before le e =
    ⊎_elim (λ (h : is_in s k ≡ true). h) (λ (i : IsAmong k (slice_index_or t n [])). absurd (let lt : k < n = before n k i in omega arith)) (if_only (is_in s n) (slice_index_or t n []) s k e)

below_only : (t : List (List ℕ)) (n : ℕ) (s : List Bool) (k : ℕ) → CallsBefore t → n ≤ k → is_in (with_callees_below t n s) k ≡ true → is_in s k ≡ true
below_only t zero s k before le e = e
below_only t (suc n) s k before le e =
    step_only t n s k before (omega arith) (below_only t n (with_all_if (is_in s n) (slice_index_or t n []) s) k before (omega arith) e)

below_closed : (t : List (List ℕ)) (n : ℕ) (s : List Bool) → CallsBefore t → n ≤ length s → (m c : ℕ) → m < n →
    is_in (with_callees_below t n s) m ≡ true → IsAmong c (slice_index_or t m []) → is_in (with_callees_below t n s) c ≡ true
below_closed t zero s before le m c lt e i = absurd (omega arith)
below_closed t (suc n) s before le m c lt e i =
    let next : List Bool = with_all_if (is_in s n) (slice_index_or t n []) s in
    ⊎_elim (λ (low : m < n). below_closed t n next before (omega (arith, if_long (is_in s n) (slice_index_or t n []) s)) m c low e i)
    (λ (high : n ≤ m).
    let same : m ≡ n = omega arith in
    let member : is_in s n ≡ true = step_only t n s n before (omega arith) (below_only t n next n before (omega arith) (ap (is_in (with_callees_below t n next)) (sym same) ∙ e)) in
    let call : IsAmong c (slice_index_or t n []) = subst (λ j. IsAmong c (slice_index_or t j [])) same i in
    let inside : c < length s = let small : c < n = before n c call in omega arith in
    let added : is_in next c ≡ true = ap (λ b. is_in (with_all_if b (slice_index_or t n []) s) c) member ∙ all_add (slice_index_or t n []) s c inside call in
    below_keep t n next c added)
    (cases_lt m n)

pub reach_is_closed : (table : List (List ℕ)) (f : ℕ) → f < length table → CallsBefore table → IsClosed table f (reach_set table f)
reach_is_closed t f lt before =
    let none : List Bool = replicate (length t) false in
    let start : List Bool = set none f true in
    let long : length none ≡ length t = length-replicate {A = Bool} (length t) false in
    let inside : f < length none = omega arith in
    let first : is_in start f ≡ true = get_or-set_same none f true false inside in
    let room : f + 1 ≤ length start = omega (arith, length-set none f true) in
    record {
      itself = below_keep t (f + 1) start f first;
      callees = λ n c e i.
          ⊎_elim (λ (low : n < f + 1). below_closed t (f + 1) start before room n c low e i)
          (λ (high : f + 1 ≤ n).
          let h : is_in start n ≡ true = below_only t (f + 1) start n before high e in
          absurd (⊎_elim (λ (a : is_in none n ≡ true). none_in (length t) n a) (λ (b : f ≡ n). let x : ⊥ = absurd (omega arith) in x) (set_only none f n h)))
          (cases_lt n (f + 1));
    }
  where
    none_in : (count n : ℕ) → is_in (replicate count false) n ≡ true → ⊥
    none_in count n e =
        ⊎_elim (λ (a : n < count). true≢false (sym e ∙ get_or-replicate count n false false a))
        (λ (b : count ≤ n). true≢false
        (sym e ∙ get_or_past (replicate count false) n false (let l = length-replicate {A = Bool} count false in omega arith))) (cases_lt n count)
