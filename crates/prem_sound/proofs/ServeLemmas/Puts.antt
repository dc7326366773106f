-- What is known of all requests that wait or are carried.
use Rattle.std.proofs.Common.{◌≡◌, ℕ, zero, suc, ◌<◌, refl, sym, subst, eqb, leb, Some, None, Option, true, false, Bool, List, [], ◌∷◌, ◌++◌, length, map, drop, IfSome, ⊎_elim}
use Rattle.prem_sound.proofs.Prelude.{cycle_gates, want_of, Arrivals, arrived, arrivals, arrivals_at, bus_at, cycle_of, is_over, step_of, cycles_of, Setup, MachineState, start_of}
use Rattle.prem_sound.proofs.Prelude.{startable_is, GateState, GatesState, Turned, gate_at, no_gate, with_queue, with_gates, is_full, queued, after_arrival, startable, taken, carries, wants}
use Rattle.prem_sound.proofs.Prelude.{starts, bus_free, bus_with, bus_turn, IsStart, Carried, CoreWant, No, New, Held, Window, Request, DeviceRecord, ReplacementRule, cases_eq, cond_both}
use Rattle.prem_sound.proofs.Prelude.{get_or-set_same, get_or-set_other, All-nil, All-push, All-head, All-tail, All, slice_set, slice_get}
use Rattle.prem_gate.specs.Gates.{ends, goes_on}
use Rattle.prem_sound.proofs.ServeLemmas.Queues.{queue_at, there_or_full, head_of, start_queues}

module _ (P : Request → Type 0) where
  pub record HoldAll (s : GatesState) : Type 0 where
    pub queues : (d : ℕ) → All P (queue_at s d)
    pub carried : IfSome s.carried (λ c. P c.request)

  set_all : (s : GatesState) (d : ℕ) (q : List Request) → d < length s.gates → All P q → HoldAll s → HoldAll (with_gates s (slice_set s.gates d (with_queue (gate_at s.gates d) q)))
  set_all s d q lt all h =
      let g : GateState = with_queue (gate_at s.gates d) q in
      record {
        queues = λ j.
            ⊎_elim (λ (e : j ≡ d). subst (λ n. All P (gate_at (slice_set s.gates d g) n).queue) (sym e) (subst (λ (x : GateState). All P x.queue) (sym (get_or-set_same s.gates d g no_gate lt)) all))
            (λ (ne : j ≡ d → ⊥). subst (λ (x : GateState). All P x.queue) (sym (get_or-set_other s.gates d j g no_gate ne)) (h.queues j))
            (cases_eq j d);
        carried = h.carried;
      }

  arrival_all : (r : Request) (s : GatesState) → P r → HoldAll s → HoldAll (after_arrival r s)
  arrival_all r s x h =
      cond_both (is_full (gate_at s.gates r.device)) s (with_gates s (slice_set s.gates r.device (queued r (gate_at s.gates r.device)))) HoldAll
      (λ _. h)
      (λ room. set_all s r.device (queue_at s r.device ++ r ∷ []) (there_or_full s r.device room) (All-push P (queue_at s r.device) r (h.queues r.device) x) h)

  pub arrivals_all : (now : ℕ) (requests : List Request) (a : Arrivals) → All P requests → HoldAll a.gates → HoldAll (arrivals now requests a).gates
  arrivals_all now [] a all h = h
  arrivals_all now (r ∷ requests) a all h =
      cond_both (eqb r.cycle now) (arrivals now requests (arrived r a)) (arrivals now requests a) (λ (x : Arrivals). HoldAll x.gates)
      (λ _. arrivals_all now requests (arrived r a) (All-tail P r requests all) (arrival_all r a.gates (All-head P r requests all) h))
      (λ _. arrivals_all now requests a (All-tail P r requests all) h)

  carries_all : (clash : Bool) (c : Carried) (s : GatesState) (memory : List ℕ) → P c.request → HoldAll s → HoldAll (carries clash c s memory).gates
  carries_all clash c s memory x h =
      cond_both (leb c.left 1) (ends clash c s memory) (goes_on clash c s memory) (λ (t : Turned). HoldAll t.gates)
      (λ _. record { queues = h.queues; carried = tt }) (λ _. record { queues = h.queues; carried = x })

  drop_all : (q : List Request) → All P q → All P (drop 1 q)
  drop_all [] all = all
  drop_all (r ∷ q) all = All-tail P r q all

  -- the head of a queue
  pub head_all : (q : List Request) (r : Request) → slice_get q 0 ≡ Some r → All P q → P r
  head_all q r e all = All-head P r (drop 1 q) (subst (All P) (head_of q r e) all)

  starts_all : (now : ℕ) (w : Window) (core : Bool) (start : Option Carried) (s : GatesState) (memory : List ℕ) → startable now w s ≡ start → HoldAll s → HoldAll (starts core start s memory).gates
  starts_all now w core None s memory is h = h
  starts_all now w core (Some c) s memory is h =
      let x : IsStart now w s.gates c = startable_is now w s c is in
      carries_all core c (taken c.device s) memory (head_all (queue_at s c.device) c.request x.head (h.queues c.device))
      (set_all s c.device (drop 1 (queue_at s c.device)) x.there (drop_all (queue_at s c.device) (h.queues c.device)) h)

  free_all : (now : ℕ) (w : Window) (core : CoreWant) (start : Option Carried) (s : GatesState) (memory : List ℕ) → startable now w s ≡ start → HoldAll s → HoldAll (bus_free core start s memory).gates
  free_all now w No start s memory is h = starts_all now w false start s memory is h
  free_all now w New start s memory is h = starts_all now w true start s memory is h
  free_all now w Held start s memory is h = h

  with_all : (now : ℕ) (w : Window) (core : CoreWant) (carried : Option Carried) (s : GatesState) (memory : List ℕ) →
      IfSome carried (λ c. P c.request) → HoldAll s → HoldAll (bus_with core carried (startable now w s) s memory).gates
  with_all now w core (Some c) s memory x h = carries_all (wants core) c s memory x h
  with_all now w core None s memory x h = free_all now w core (startable now w s) s memory refl h

  pub turn_all : (now : ℕ) (w : Window) (core : CoreWant) (s : GatesState) (memory : List ℕ) → HoldAll s → HoldAll (bus_turn now w core s memory).gates
  turn_all now w core s memory h = with_all now w core s.carried s memory h.carried h

  step_all : (rule : ReplacementRule) (p : Setup) (requests : List Request) (s : MachineState) → All P requests → HoldAll s.gates → HoldAll (step_of rule p requests s).gates
  step_all rule p requests s all h =
      let a : Arrivals = arrivals_at requests s in
      cond_both (is_over s) s (cycle_of rule p requests s) (λ (x : MachineState). HoldAll x.gates) (λ _. h)
      (λ _. subst HoldAll (sym (cycle_gates rule p a (bus_at a.gates s) s))
      (turn_all s.now s.core.window (want_of s.core.debt) a.gates s.work.memory (arrivals_all s.now requests _ all h)))

  pub cycles_all : (rule : ReplacementRule) (p : Setup) (requests : List Request) (n : ℕ) (s : MachineState) → All P requests → HoldAll s.gates → HoldAll (cycles_of rule p requests n s).gates
  unfolding cycles_of
  cycles_all rule p requests zero s all h = h
  cycles_all rule p requests (suc n) s all h = step_all rule p requests (cycles_of rule p requests n s) all (cycles_all rule p requests n s all h)

  pub start_all : (p : Setup) (inputs : List (List ℕ)) (memory : List ℕ) → HoldAll (start_of p inputs memory).gates
  start_all p inputs memory = record {
    queues = λ d. subst (All P) (sym (start_queues (map (λ (x : DeviceRecord). x.device) p.devices) (map (λ (x : DeviceRecord). x.area) p.devices) d)) (All-nil P);
    carried = tt;
  }
