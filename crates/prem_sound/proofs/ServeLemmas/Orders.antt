-- The requests that find room are some of those that were asked, in order.
use Rattle.std.proofs.Common.{◌≡◌, ℕ, zero, suc, ◌+◌, ◌<◌, ◌≤◌, refl, ap, ◌∙◌, sym, subst, arith, cond, eqb, true, false, Bool, List, [], ◌∷◌, ◌++◌, length, get_or, ⊎_elim}
use Rattle.prem_sound.proofs.Prelude.{run_of-now, is_over, cycles_of, memory_of, run_of, Setup, MachineState, start_of, GatesState, gate_at, is_full, after_arrival, Request, ReplacementRule}
use Rattle.prem_sound.proofs.Prelude.{found_room, coming_requests, queued_of, AreAmong, among_none, among_skip, among_take, asked_before, RoomIsFoundInOrder, cases_eq, cases_lt, eq-eqb}
use Rattle.prem_sound.proofs.Prelude.{ne_eqb, lt-ltb, le-ltb, filter}
use Rattle.std.specs.List.Sorted.{IsNonDecreasingBy}

pub among_append : (xs ys us vs : List Request) → AreAmong xs ys → AreAmong us vs → AreAmong (xs ++ us) (ys ++ vs)
among_append _ _ us vs among_none k = k
among_append _ _ us vs (among_skip r xs ys h) k = among_skip r (xs ++ us) (ys ++ vs) (among_append xs ys us vs h k)
among_append _ _ us vs (among_take r xs ys h) k = among_take r (xs ++ us) (ys ++ vs) (among_append xs ys us vs h k)

pub none_among : (ys : List Request) → AreAmong [] ys
none_among [] = among_none
none_among (y ∷ ys) = among_skip y [] ys (none_among ys)

-- those of a cycle
abbrev pub asked_at : ℕ → List Request → List Request
asked_at n requests = filter (λ (r : Request). eqb r.cycle n) requests

pub room_among : (n : ℕ) (requests : List Request) (s : GatesState) → AreAmong (found_room n requests s) (asked_at n requests)
room_among n [] s = among_none
room_among n (r ∷ requests) s =
    by (eqb r.cycle n) (is_full (gate_at s.gates r.device)) (found_room n requests (after_arrival r s)) (found_room n requests s) (asked_at n requests)
    (room_among n requests (after_arrival r s)) (room_among n requests s) where
      by : (b full : Bool) (xs us ys : List Request) → AreAmong xs ys → AreAmong us ys → AreAmong (cond b (cond full xs (r ∷ xs)) us) (cond b (r ∷ ys) ys)
      by true true xs us ys h k = among_skip r xs ys h
      by true false xs us ys h k = among_take r xs ys h
      by false full xs us ys h k = k

-- ---- in order of cycle

-- no request comes before this cycle
abbrev From : ℕ → List Request → Type 0
From n requests = (k : ℕ) (d : Request) → k < length requests → n ≤ (get_or requests k d).cycle

none_before : (n m : ℕ) (requests : List Request) → m ≤ n → From n requests → asked_before m requests ≡ []
none_before n m [] le h = refl
none_before n m (r ∷ requests) le h =
    let here : n ≤ r.cycle = h 0 r (omega arith) in
    ap (λ b. cond b (r ∷ asked_before m requests) (asked_before m requests)) (le-ltb r.cycle m (omega (arith, le, here)))
    ∙ none_before n m requests le (λ k d lt. h (suc k) d (omega (arith, lt)))

none_at : (n m : ℕ) (requests : List Request) → m < n → From n requests → asked_at m requests ≡ []
none_at n m [] lt h = refl
none_at n m (r ∷ requests) lt h =
    let here : n ≤ r.cycle = h 0 r (omega arith) in
    ap (λ b. cond b (r ∷ asked_at m requests) (asked_at m requests)) (ne_eqb r.cycle m (λ e. omega (arith, lt, here, e)))
    ∙ none_at n m requests lt (λ k d l. h (suc k) d (omega (arith, l)))

tail_sorted : (r : Request) (requests : List Request) → IsNonDecreasingBy (λ (x : Request). x.cycle) (r ∷ requests) → IsNonDecreasingBy (λ (x : Request). x.cycle) requests
tail_sorted r requests h = λ i j d le lt. h (suc i) (suc j) d (omega (arith, le)) (omega (arith, lt))

from_first : (r : Request) (requests : List Request) → IsNonDecreasingBy (λ (x : Request). x.cycle) (r ∷ requests) → From r.cycle requests
from_first r requests h = λ k d lt. h 0 (suc k) d (omega arith) (omega (arith, lt))

pub before_next : (n : ℕ) (requests : List Request) → IsNonDecreasingBy (λ (r : Request). r.cycle) requests → asked_before (n + 1) requests ≡ asked_before n requests ++ asked_at n requests
before_next n [] h = refl
before_next n (r ∷ requests) h =
    let ih : asked_before (n + 1) requests ≡ asked_before n requests ++ asked_at n requests = before_next n requests (tail_sorted r requests h) in
    let later : From r.cycle requests = from_first r requests h in
    ⊎_elim (λ (lt : r.cycle < n).
    ap (λ b. cond b (r ∷ asked_before (n + 1) requests) (asked_before (n + 1) requests)) (lt-ltb r.cycle (n + 1) (omega (arith, lt)))
    ∙ ap (λ zs. r ∷ zs) ih
    ∙ sym (ap (λ b. cond b (r ∷ asked_before n requests) (asked_before n requests) ++ asked_at n (r ∷ requests)) (lt-ltb r.cycle n lt)
    ∙ ap (λ b. (r ∷ asked_before n requests) ++ cond b (r ∷ asked_at n requests) (asked_at n requests)) (ne_eqb r.cycle n (λ e. omega (arith, lt, e)))))
    (λ (ge : n ≤ r.cycle).
    let none : asked_before n requests ≡ [] = none_before r.cycle n requests ge later in
    let first : asked_before n (r ∷ requests) ≡ [] = ap (λ b. cond b (r ∷ asked_before n requests) (asked_before n requests)) (le-ltb r.cycle n ge) ∙ none in
    ⊎_elim (λ (e : r.cycle ≡ n).
    ap (λ b. cond b (r ∷ asked_before (n + 1) requests) (asked_before (n + 1) requests)) (lt-ltb r.cycle (n + 1) (omega (arith, e)))
    ∙ ap (λ zs. r ∷ zs) (ih ∙ ap (λ zs. zs ++ asked_at n requests) none)
    ∙ sym (ap (λ zs. zs ++ asked_at n (r ∷ requests)) first ∙ ap (λ b. cond b (r ∷ asked_at n requests) (asked_at n requests)) (eq-eqb r.cycle n e)))
    (λ (ne : r.cycle ≡ n → ⊥).
    let more : n + 1 ≤ r.cycle = ⊎_elim (λ (x : n < r.cycle). omega (arith, x)) (λ (x : r.cycle ≤ n). absurd (ne (omega (arith, x, ge)))) (cases_lt n r.cycle) in
    ap (λ b. cond b (r ∷ asked_before (n + 1) requests) (asked_before (n + 1) requests)) (le-ltb r.cycle (n + 1) more)
    ∙ none_before r.cycle (n + 1) requests more later
    ∙ sym (ap (λ zs. zs ++ asked_at n (r ∷ requests)) first ∙ none_at (n + 1) n (r ∷ requests) (omega arith) (from_more more)))
    (cases_eq r.cycle n))
    (cases_lt r.cycle n) where
      from_more : n + 1 ≤ r.cycle → From (n + 1) (r ∷ requests)
      from_more le zero d lt = le
      from_more le (suc k) d lt = omega (arith, le, from_first r requests h k d (omega (arith, lt)))

-- ---- a run

coming_among : (n : ℕ) (requests : List Request) (s : MachineState) → (is_over s ≡ false → s.now ≡ n) → AreAmong (coming_requests requests s) (asked_at n requests)
coming_among n requests s now = by (is_over s) refl where
  by : (b : Bool) → is_over s ≡ b → AreAmong (cond b [] (found_room s.now requests s.gates)) (asked_at n requests)
  by true e = none_among (asked_at n requests)
  by false e = subst (λ m. AreAmong (found_room s.now requests s.gates) (asked_at m requests)) (now e) (room_among s.now requests s.gates)

queued_among : (rule : ReplacementRule) (p : Setup) (content : List ℕ) (inputs : List (List ℕ)) (requests : List Request) →
    IsNonDecreasingBy (λ (r : Request). r.cycle) requests → (n : ℕ) →
    AreAmong (queued_of rule p requests n (start_of p inputs (memory_of p content))) (asked_before n requests)
unfolding cycles_of queued_of
queued_among rule p content inputs requests h zero = none_among (asked_before 0 requests)
queued_among rule p content inputs requests h (suc n) =
    let s : MachineState = run_of rule p content inputs requests n in
    let q : List Request = queued_of rule p requests n (start_of p inputs (memory_of p content)) in
    let e : n + 1 ≡ suc n = omega arith in
    subst (λ m. AreAmong (q ++ coming_requests requests s) (asked_before m requests)) e
    (subst (AreAmong (q ++ coming_requests requests s)) (sym (before_next n requests h))
    (among_append q (asked_before n requests) (coming_requests requests s) (asked_at n requests) (queued_among rule p content inputs requests h n)
    (coming_among n requests s (λ go. run_of-now rule p content inputs requests n go))))

pub found_in_order : RoomIsFoundInOrder
found_in_order rule p content inputs requests n h = queued_among rule p content inputs requests h n
