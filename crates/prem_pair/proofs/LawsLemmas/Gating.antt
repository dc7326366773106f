-- The transfers of a run take no more cycles than the requests that have been asked.
use Rattle.std.proofs.Common.{◌≡◌, ℕ, zero, suc, ◌+◌, ◌<◌, ◌≤◌, refl, ap, ◌∙◌, sym, subst, arith, cond, eqb, leb, ltb, Some, None, Option, true, false, Bool, List, [], ◌∷◌, ◌++◌, length}
use Rattle.std.proofs.Common.{drop, IfSome, ◌⊎◌, inl, inr, get_or, ⊎_elim}
use Rattle.std.specs.Prelude.{All, slice_set, slice_get, is_some, ◌||◌, ◌&&◌, not, sum_by}
use Rattle.prem_pair.proofs.Prelude.{is_empty, Arrivals, arrived, arrivals, IsRequest, one_if, device_of, Setup, startable_is, GateState, GatesState, Turned, gate_at, no_gate, with_queue}
use Rattle.prem_pair.proofs.Prelude.{with_gates, queued, after_arrival, fits, start_of, first_of, startable_from, startable, taken, without_head, ends, goes_on, carries, wants, starts}
use Rattle.prem_pair.proofs.Prelude.{bus_free, bus_with, bus_turn, IsStart, Carried, CoreWant, No, New, Held, Window, Request, some_wait, longest_transfer, cost_of_request, all_costs}
use Rattle.prem_pair.proofs.Prelude.{cases_eq, cases_lt, cond_both, leb-false, le-leb, eq-eqb, ne_eqb, lt-ltb, le-ltb, get_or-set_same, get_or-set_other, length-set, All-head, All-tail}
use Rattle.prem_pair.proofs.Prelude.{sum_by-append, sum_by-cons, sum_by-set}
use Rattle.prem_gate.specs.Gates.{is_full}

-- the bus carries a transfer in a cycle
abbrev pub transfers : Turned → Bool
transfers b = is_some b.turn.ended || is_some b.gates.carried

-- ---- the gates' numbers

-- each gate has its device's cost, and what is carried isn't done
pub record Gated (p : Setup) (s : GatesState) : Type 0 where
  pub count : length s.gates ≡ length p.devices
  pub costs : (d : ℕ) → d < length p.devices → (gate_at s.gates d).cost ≡ (device_of p d).device.cost
  pub some : IfSome s.carried (λ c. 1 ≤ c.left)

-- a transfer takes some cycles, and no more than the window of the gates
pub record HaveCosts (p : Setup) : Type 0 where
  pub least : (d : ℕ) → d < length p.devices → 1 ≤ (device_of p d).device.cost
  pub most : (d : ℕ) → d < length p.devices → (device_of p d).device.cost ≤ longest_transfer

queue_gated : (p : Setup) (s : GatesState) (d : ℕ) (q : List Request) → Gated p s → Gated p (with_gates s (slice_set s.gates d (with_queue (gate_at s.gates d) q)))
queue_gated p s d q h =
    let g : GateState = with_queue (gate_at s.gates d) q in
    record {
      count = length-set s.gates d g ∙ h.count;
      costs = λ j lt.
          ⊎_elim (λ (e : j ≡ d).
          ap (λ i. (gate_at (slice_set s.gates d g) i).cost) e
          ∙ ap (λ (x : GateState). x.cost) (get_or-set_same s.gates d g no_gate (omega (arith, lt, e, h.count)))
          ∙ ap (λ i. (gate_at s.gates i).cost) (sym e) ∙ h.costs j lt)
          (λ (ne : j ≡ d → ⊥). ap (λ (x : GateState). x.cost) (get_or-set_other s.gates d j g no_gate ne) ∙ h.costs j lt)
          (cases_eq j d);
      some = h.some;
    }

arrival_gated : (p : Setup) (r : Request) (s : GatesState) → Gated p s → Gated p (after_arrival r s)
arrival_gated p r s h =
    cond_both (is_full (gate_at s.gates r.device)) s (with_gates s (slice_set s.gates r.device (queued r (gate_at s.gates r.device)))) (Gated p)
    (λ _. h) (λ _. queue_gated p s r.device ((gate_at s.gates r.device).queue ++ r ∷ []) h)

pub arrivals_gated : (p : Setup) (now : ℕ) (requests : List Request) (a : Arrivals) → Gated p a.gates → Gated p (arrivals now requests a).gates
arrivals_gated p now [] a h = h
arrivals_gated p now (r ∷ requests) a h =
    cond_both (eqb r.cycle now) (arrivals now requests (arrived r a)) (arrivals now requests a) (λ (x : Arrivals). Gated p x.gates)
    (λ _. arrivals_gated p now requests (arrived r a) (arrival_gated p r a.gates h))
    (λ _. arrivals_gated p now requests a h)

carries_gated : (p : Setup) (clash : Bool) (c : Carried) (s : GatesState) (memory : List ℕ) → Gated p s → Gated p (carries clash c s memory).gates
carries_gated p clash c s memory h =
    cond_both (leb c.left 1) (ends clash c s memory) (goes_on clash c s memory) (λ (t : Turned). Gated p t.gates)
    (λ _. record { count = h.count; costs = h.costs; some = tt })
    (λ more. record { count = h.count; costs = h.costs; some = (let x : 1 < c.left = leb-false c.left 1 more in omega arith) })

starts_gated : (p : Setup) (core : Bool) (o : Option Carried) (s : GatesState) (memory : List ℕ) → Gated p s → Gated p (starts core o s memory).gates
starts_gated p core None s memory h = h
starts_gated p core (Some c) s memory h = carries_gated p core c (taken c.device s) memory (queue_gated p s c.device (drop 1 (gate_at s.gates c.device).queue) h)

free_gated : (p : Setup) (core : CoreWant) (o : Option Carried) (s : GatesState) (memory : List ℕ) → Gated p s → Gated p (bus_free core o s memory).gates
free_gated p No o s memory h = starts_gated p false o s memory h
free_gated p New o s memory h = starts_gated p true o s memory h
free_gated p Held o s memory h = h

with_gated : (p : Setup) (core : CoreWant) (carried o : Option Carried) (s : GatesState) (memory : List ℕ) → Gated p s → Gated p (bus_with core carried o s memory).gates
with_gated p core (Some c) o s memory h = carries_gated p (wants core) c s memory h
with_gated p core None o s memory h = free_gated p core o s memory h

pub turn_gated : (p : Setup) (now : ℕ) (w : Window) (core : CoreWant) (s : GatesState) (memory : List ℕ) → Gated p s → Gated p (bus_turn now w core s memory).gates
turn_gated p now w core s memory h = with_gated p core s.carried (startable now w s) s memory h

-- ---- the cycles that wait

-- those of the requests that wait at a gate
abbrev weigh : GateState → ℕ
weigh g = sum_by (λ (r : Request). g.cost) g.queue

abbrev left_of : Option Carried → ℕ
left_of None = 0
left_of (Some c) = c.left

-- and those of the transfer that is carried
abbrev pub load : GatesState → ℕ
load s = sum_by weigh s.gates + left_of s.carried

-- ---- arrivals

-- the cost of a request, where its cycle is this one, and where it comes before a cycle
abbrev cost_at : ℕ → Setup → Request → ℕ
cost_at now p r = cond (eqb r.cycle now) (cost_of_request p.devices r) 0

abbrev cost_before : ℕ → Setup → Request → ℕ
cost_before now p r = cond (ltb r.cycle now) (cost_of_request p.devices r) 0

abbrev asked_at : ℕ → Setup → List Request → ℕ
asked_at now p requests = sum_by (cost_at now p) requests

-- the costs of the requests of cycles before this one
abbrev pub asked_before : ℕ → Setup → List Request → ℕ
asked_before now p requests = sum_by (cost_before now p) requests

one_asked : (x c : ℕ) (p : Setup) (r : Request) → cost_before (x + 1) p r ≡ cost_before x p r + cost_at x p r
one_asked x c p r =
    ⊎_elim (λ (e : r.cycle ≡ x).
    let n : ℕ = cost_of_request p.devices r in
    ap (λ b. cond b n 0) (lt-ltb r.cycle (x + 1) (omega (arith, e)))
    ∙ sym (ap (λ b. cond b n 0 + cond (eqb r.cycle x) n 0) (le-ltb r.cycle x (omega (arith, e))) ∙ ap (λ b. 0 + cond b n 0) (eq-eqb r.cycle x e)
    ∙ omega arith))
    (λ (ne : r.cycle ≡ x → ⊥).
    let n : ℕ = cost_of_request p.devices r in
    ⊎_elim (λ (lt : r.cycle < x).
    ap (λ b. cond b n 0) (lt-ltb r.cycle (x + 1) (omega (arith, lt)))
    ∙ sym (ap (λ b. cond b n 0 + cond (eqb r.cycle x) n 0) (lt-ltb r.cycle x lt) ∙ ap (λ b. n + cond b n 0) (ne_eqb r.cycle x ne) ∙ omega arith))
    (λ (ge : x ≤ r.cycle).
    let more : x + 1 ≤ r.cycle = ⊎_elim (λ (y : x < r.cycle). omega (arith, y)) (λ (y : r.cycle ≤ x). absurd (ne (omega (arith, y, ge)))) (cases_lt x r.cycle) in
    ap (λ b. cond b n 0) (le-ltb r.cycle (x + 1) more) ∙ sym (ap (λ b. cond b n 0 + cond (eqb r.cycle x) n 0) (le-ltb r.cycle x ge) ∙ ap (λ b. 0 + cond b n 0) (ne_eqb r.cycle x ne)))
    (cases_lt r.cycle x))
    (cases_eq r.cycle x)

pub asked_next : (now : ℕ) (p : Setup) (requests : List Request) → asked_before (now + 1) p requests ≡ asked_before now p requests + asked_at now p requests
asked_next now p [] = refl
asked_next now p (r ∷ requests) =
    let a : asked_before (now + 1) p requests ≡ asked_before now p requests + asked_at now p requests = asked_next now p requests in
    let x : asked_before (now + 1) p (r ∷ requests) ≡ cost_before (now + 1) p r + asked_before (now + 1) p requests = sum_by-cons (cost_before (now + 1) p) r requests in
    let y : asked_before now p (r ∷ requests) ≡ cost_before now p r + asked_before now p requests = sum_by-cons (cost_before now p) r requests in
    let z : asked_at now p (r ∷ requests) ≡ cost_at now p r + asked_at now p requests = sum_by-cons (cost_at now p) r requests in
    omega (arith, a, x, y, z, one_asked now 0 p r)

cond_most : (b : Bool) (n : ℕ) → cond b n 0 ≤ n
cond_most true n = omega arith
cond_most false n = omega arith

pub asked_most : (now : ℕ) (p : Setup) (requests : List Request) → asked_before now p requests ≤ all_costs p.devices requests
asked_most now p [] = omega arith
asked_most now p (r ∷ requests) =
    let a : asked_before now p requests ≤ all_costs p.devices requests = asked_most now p requests in
    let x : asked_before now p (r ∷ requests) ≡ cost_before now p r + asked_before now p requests = sum_by-cons (cost_before now p) r requests in
    let y : all_costs p.devices (r ∷ requests) ≡ cost_of_request p.devices r + all_costs p.devices requests = sum_by-cons (cost_of_request p.devices) r requests in
    omega (arith, a, x, y, cond_most (ltb r.cycle now) (cost_of_request p.devices r))

-- a request that finds room waits
arrival_load : (p : Setup) (r : Request) (s : GatesState) → r.device < length p.devices → Gated p s → load (after_arrival r s) ≤ load s + cost_of_request p.devices r
arrival_load p r s lt h =
    let g : GateState = gate_at s.gates r.device in
    let e = sum_by-set weigh s.gates r.device (queued r g) no_gate (omega (arith, lt, h.count)) in
    let n : weigh (queued r g) ≡ weigh g + sum_by (λ (x : Request). g.cost) (r ∷ []) = sum_by-append (λ (x : Request). g.cost) g.queue (r ∷ []) in
    let one : sum_by (λ (x : Request). g.cost) (r ∷ []) ≡ g.cost + 0 = sum_by-cons (λ (x : Request). g.cost) r [] in
    let same : g.cost ≡ cost_of_request p.devices r = h.costs r.device lt in
    cond_both (is_full g) s (with_gates s (slice_set s.gates r.device (queued r g))) (λ (x : GatesState). load x ≤ load s + cost_of_request p.devices r)
    (λ _. omega arith) (λ _. omega (arith, e, n, one, same))

pub arrivals_load : (p : Setup) (now : ℕ) (requests : List Request) (a : Arrivals) → All (IsRequest p.devices) requests → Gated p a.gates →
    load (arrivals now requests a).gates ≤ load a.gates + asked_at now p requests
arrivals_load p now [] a all h = omega arith
arrivals_load p now (r ∷ requests) a all h =
    let rest : All (IsRequest p.devices) requests = All-tail (IsRequest p.devices) r requests all in
    let here : r.device < length p.devices = (All-head (IsRequest p.devices) r requests all).device in
    let z : asked_at now p (r ∷ requests) ≡ cost_at now p r + asked_at now p requests = sum_by-cons (cost_at now p) r requests in
    cond_both (eqb r.cycle now) (arrivals now requests (arrived r a)) (arrivals now requests a) (λ (x : Arrivals). load x.gates ≤ load a.gates + asked_at now p (r ∷ requests))
    (λ yes.
    let c : cost_at now p r ≡ cost_of_request p.devices r = ap (λ b. cond b (cost_of_request p.devices r) 0) yes in
    let x : load (arrivals now requests (arrived r a)).gates ≤ load (after_arrival r a.gates) + asked_at now p requests =
    arrivals_load p now requests (arrived r a) rest (arrival_gated p r a.gates h) in
    omega (arith, x, c, z, arrival_load p r a.gates here h))
    (λ _. omega (arith, z, arrivals_load p now requests a rest h))

-- ---- the bus

abbrev Lighter : GatesState → Turned → Type 0
Lighter s t = load t.gates + one_if (transfers t) ≤ load s

carries_load : (clash : Bool) (c : Carried) (s : GatesState) (memory : List ℕ) → 1 ≤ c.left →
    load (carries clash c s memory).gates + one_if (transfers (carries clash c s memory)) ≤ sum_by weigh s.gates + c.left
carries_load clash c s memory some =
    cond_both (leb c.left 1) (ends clash c s memory) (goes_on clash c s memory) (λ (t : Turned). load t.gates + one_if (transfers t) ≤ sum_by weigh s.gates + c.left)
    (λ _. omega (arith, some)) (λ _. omega (arith, some))

headless : (n : ℕ) (q : List Request) (r : Request) → slice_get q 0 ≡ Some r → sum_by (λ (x : Request). n) q ≡ n + sum_by (λ (x : Request). n) (drop 1 q)
headless n [] r e = absurd (let x : None ≡ Some r = e in cc)
headless n (x ∷ q) r e = sum_by-cons (λ (y : Request). n) x q

starts_load : (p : Setup) (now : ℕ) (w : Window) (core : Bool) (o : Option Carried) (s : GatesState) (memory : List ℕ) → HaveCosts p →
    startable now w s ≡ o → s.carried ≡ None → Gated p s → Lighter s (starts core o s memory)
starts_load p now w core None s memory have is none h = ap_le (transfers_none s none) where
  transfers_none : (s : GatesState) → s.carried ≡ None → one_if (is_some s.carried) ≡ 0
  transfers_none s e = ap (λ (x : Option Carried). one_if (is_some x)) e

  ap_le : one_if (is_some s.carried) ≡ 0 → load s + one_if (is_some s.carried) ≤ load s
  ap_le e = omega (arith, e)
starts_load p now w core (Some c) s memory have is none h =
    let x : IsStart now w s.gates c = startable_is now w s c is in
    let g : GateState = gate_at s.gates c.device in
    let lt : c.device < length p.devices = omega (arith, x.there, h.count) in
    let cost : c.left ≡ g.cost = x.cost in
    let e = sum_by-set weigh s.gates c.device (without_head g) no_gate x.there in
    let n : weigh g ≡ g.cost + weigh (without_head g) = headless g.cost g.queue c.request x.head in
    let z : left_of s.carried ≡ 0 = ap left_of none in
    omega (arith, carries_load core c (taken c.device s) memory (omega (arith, cost, h.costs c.device lt, have.least c.device lt)), e, n, cost, z)

stays_load : (s : GatesState) → s.carried ≡ None → load s + one_if (is_some s.carried) ≤ load s
stays_load s e = let x : one_if (is_some s.carried) ≡ 0 = ap (λ (y : Option Carried). one_if (is_some y)) e in omega (arith, x)

free_load : (p : Setup) (now : ℕ) (w : Window) (core : CoreWant) (o : Option Carried) (s : GatesState) (memory : List ℕ) → HaveCosts p →
    startable now w s ≡ o → s.carried ≡ None → Gated p s → Lighter s (bus_free core o s memory)
free_load p now w No o s memory have is none h = starts_load p now w false o s memory have is none h
free_load p now w New o s memory have is none h = starts_load p now w true o s memory have is none h
free_load p now w Held o s memory have is none h = stays_load s none

with_load : (p : Setup) (now : ℕ) (w : Window) (core : CoreWant) (carried : Option Carried) (s : GatesState) (memory : List ℕ) → HaveCosts p →
    s.carried ≡ carried → IfSome carried (λ c. 1 ≤ c.left) → Gated p s → Lighter s (bus_with core carried (startable now w s) s memory)
with_load p now w core (Some c) s memory have is l h = let z : left_of s.carried ≡ c.left = ap left_of is in omega (arith, carries_load (wants core) c s memory l, z)
with_load p now w core None s memory have is l h = free_load p now w core (startable now w s) s memory have refl is h

-- a cycle in which the bus carries a transfer leaves one less
pub turn_load : (p : Setup) (now : ℕ) (w : Window) (core : CoreWant) (s : GatesState) (memory : List ℕ) → HaveCosts p → Gated p s → Lighter s (bus_turn now w core s memory)
turn_load p now w core s memory have h = with_load p now w core s.carried s memory have refl h.some h

-- ---- the gates have the token

carries_transfers : (clash : Bool) (c : Carried) (s : GatesState) (memory : List ℕ) → transfers (carries clash c s memory) ≡ true
carries_transfers clash c s memory =
    cond_both (leb c.left 1) (ends clash c s memory) (goes_on clash c s memory) (λ (t : Turned). transfers t ≡ true) (λ _. refl) (λ _. refl)

first_some : (a b : Option Carried) → (is_some a ≡ true) ⊎ (is_some b ≡ true) → is_some (first_of a b) ≡ true
first_some (Some c) b h = refl
first_some None b (inl e) = absurd (let x : false ≡ true = e in cc)
first_some None b (inr e) = e

start_some : (now d cost : ℕ) (q : List Request) → not (is_empty q) ≡ true → cost ≤ longest_transfer → is_some (start_of now (record { start = now; close = now + longest_transfer }) d cost q) ≡ true
start_some now d cost [] e le = absurd (let x : false ≡ true = e in cc)
start_some now d cost (r ∷ q) e le =
    let yes : fits now (record { start = now; close = now + longest_transfer }) cost ≡ true =
    ap (λ b. b && leb (now + cost) (now + longest_transfer)) (le-leb now now (omega arith)) ∙ le-leb (now + cost) (now + longest_transfer) (omega (arith, le)) in
    let one : Option Carried = Some (record { left = cost; device = d; first = now; request = r }) in
    ap (λ b. is_some (cond b one None)) yes

either_waits : (a b : Bool) → (a || b) ≡ true → (a ≡ true) ⊎ (b ≡ true)
either_waits true b h = inl refl
either_waits false b h = inr h

startable_some : (now d : ℕ) (gates : List GateState) → some_wait gates ≡ true → All (λ (g : GateState). g.cost ≤ longest_transfer) gates →
    is_some (startable_from now (record { start = now; close = now + longest_transfer }) d gates) ≡ true
startable_some now d [] h all = absurd (let x : false ≡ true = h in cc)
startable_some now d (g ∷ gates) h all =
    first_some (start_of now (record { start = now; close = now + longest_transfer }) d g.cost g.queue) (startable_from now (record { start = now; close = now + longest_transfer }) (d + 1) gates)
    (⊎_elim (λ (x : not (is_empty g.queue) ≡ true). inl (start_some now d g.cost g.queue x (All-head (λ (y : GateState). y.cost ≤ longest_transfer) g gates all)))
    (λ (x : some_wait gates ≡ true). inr (startable_some now (d + 1) gates x (All-tail (λ (y : GateState). y.cost ≤ longest_transfer) g gates all)))
    (either_waits (not (is_empty g.queue)) (some_wait gates) h))

all_most : (p : Setup) (s : GatesState) → HaveCosts p → Gated p s → All (λ (g : GateState). g.cost ≤ longest_transfer) s.gates
all_most p s have h k e lt =
    let ld : k < length p.devices = omega (arith, lt, h.count) in
    subst (λ (g : GateState). g.cost ≤ longest_transfer) (sym (get_any s.gates k e no_gate lt)) (omega (arith, h.costs k ld, have.most k ld)) where
      get_any : (xs : List GateState) (k : ℕ) (d z : GateState) → k < length xs → get_or xs k d ≡ get_or xs k z
      get_any [] k d z lt = absurd (omega (arith, lt))
      get_any (x ∷ xs) zero d z lt = refl
      get_any (x ∷ xs) (suc k) d z lt = get_any xs k d z (omega (arith, lt))

starts_transfers : (o : Option Carried) (s : GatesState) (memory : List ℕ) → is_some o ≡ true → transfers (starts false o s memory) ≡ true
starts_transfers None s memory h = absurd (let x : false ≡ true = h in cc)
starts_transfers (Some c) s memory h = carries_transfers false c (taken c.device s) memory

carried_transfers : (core : CoreWant) (carried o : Option Carried) (s : GatesState) (memory : List ℕ) → is_some carried ≡ true → transfers (bus_with core carried o s memory) ≡ true
carried_transfers core None o s memory h = absurd (let x : false ≡ true = h in cc)
carried_transfers core (Some c) o s memory h = carries_transfers (wants core) c s memory

-- what is carried goes on
pub turn_goes_on : (now : ℕ) (w : Window) (core : CoreWant) (s : GatesState) (memory : List ℕ) → is_some s.carried ≡ true → transfers (bus_turn now w core s memory) ≡ true
turn_goes_on now w core s memory h = carried_transfers core s.carried (startable now w s) s memory h

got_by : (carried o : Option Carried) (s : GatesState) (memory : List ℕ) → is_some o ≡ true → transfers (bus_with No carried o s memory) ≡ true
got_by (Some c) o s memory h = carries_transfers false c s memory
got_by None o s memory h = starts_transfers o s memory h

-- in the cycle in which they get it a transfer starts
pub turn_got : (p : Setup) (now : ℕ) (s : GatesState) (memory : List ℕ) → HaveCosts p → Gated p s → some_wait s.gates ≡ true →
    transfers (bus_turn now (record { start = now; close = now + longest_transfer }) No s memory) ≡ true
turn_got p now s memory have h some =
    got_by s.carried (startable now (record { start = now; close = now + longest_transfer }) s) s memory (startable_some now 0 s.gates some (all_most p s have h))

-- ---- a transfer ends or goes on

abbrev EndsOrGoes : Turned → Type 0
EndsOrGoes t = transfers t ≡ true → not (is_some t.turn.ended) ≡ is_some t.gates.carried

carries_one : (clash : Bool) (c : Carried) (s : GatesState) (memory : List ℕ) → EndsOrGoes (carries clash c s memory)
carries_one clash c s memory = cond_both (leb c.left 1) (ends clash c s memory) (goes_on clash c s memory) EndsOrGoes (λ _ e. refl) (λ _ e. refl)

starts_one : (core : Bool) (o : Option Carried) (s : GatesState) (memory : List ℕ) → EndsOrGoes (starts core o s memory)
starts_one core None s memory = λ e. sym e
starts_one core (Some c) s memory = carries_one core c (taken c.device s) memory

free_one : (core : CoreWant) (o : Option Carried) (s : GatesState) (memory : List ℕ) → EndsOrGoes (bus_free core o s memory)
free_one No o s memory = starts_one false o s memory
free_one New o s memory = starts_one true o s memory
free_one Held o s memory = λ e. sym e

with_one : (core : CoreWant) (carried o : Option Carried) (s : GatesState) (memory : List ℕ) → EndsOrGoes (bus_with core carried o s memory)
with_one core (Some c) o s memory = carries_one (wants core) c s memory
with_one core None o s memory = free_one core o s memory

pub turn_one : (now : ℕ) (w : Window) (core : CoreWant) (s : GatesState) (memory : List ℕ) → EndsOrGoes (bus_turn now w core s memory)
turn_one now w core s memory = with_one core s.carried (startable now w s) s memory
