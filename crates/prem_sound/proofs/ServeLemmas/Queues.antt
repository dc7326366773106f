-- A queued request is transferred in order, once, or still waits.
use Rattle.std.proofs.Common.{◌≡◌, ◌≢◌, ℕ, zero, suc, ◌+◌, ◌<◌, ◌≤◌, refl, ap, ◌∙◌, sym, cond, eqb, leb, Some, None, Option, true, false, Bool, List, [], ◌∷◌, ◌++◌, append_assoc, append-nil}
use Rattle.std.proofs.Common.{length, map, drop, ⊎_elim}
use Rattle.prem_sound.proofs.Prelude.{settle_keeps, cycle_gates, want_of, Arrivals, arrived, arrivals, arrivals_at, bus_at, core_at, joined, with_now, next_cycle, cycle_with, cycle_of}
use Rattle.prem_sound.proofs.Prelude.{is_over, step_of, cycles_of, memory_of, Setup, MachineState, start_of, startable_is, GateState, GatesState, Turned, gate_at, no_gate, with_gates}
use Rattle.prem_sound.proofs.Prelude.{is_full, queued, after_arrival, startable, without_head, taken, transfer_of, carries, wants, starts, bus_free, bus_with, bus_turn, gates_of, IsStart}
use Rattle.prem_sound.proofs.Prelude.{Carried, CoreWant, No, New, Held, Transfer, Window, Request, DeviceRecord, with_last, ReplacementRule, found_room, coming_requests, queued_of, asked_of}
use Rattle.prem_sound.proofs.Prelude.{transferred_of, carried_of, held_of, RequestsAreHeld, cases_eq, cases_lt, cond_both, eq-eqb, ne_eqb, get_or-set_same, get_or-set_other, get_or_past}
use Rattle.prem_sound.proofs.Prelude.{map-append, filter-append, filter, slice_get, slice_set, is_some}
use Rattle.prem_gate.specs.Gates.{ends, goes_on}
use Rattle.prem_plant.specs.declared.plant.Device.{Device}

-- ---- arrivals

abbrev pub queue_at : GatesState → ℕ → List Request
queue_at s d = (gate_at s.gates d).queue

-- a gate that isn't there is full
pub there_or_full : (s : GatesState) (d : ℕ) → is_full (gate_at s.gates d) ≡ false → d < length s.gates
there_or_full s d h =
    ⊎_elim (λ (lt : d < length s.gates). lt)
    (λ (past : length s.gates ≤ d).
    let x : true ≡ false = sym (ap is_full (get_or_past s.gates d no_gate past)) ∙ h in absurd cc)
    (cases_lt d (length s.gates))

asked_here : (r : Request) (d : ℕ) → d ≡ r.device → asked_of d (r ∷ []) ≡ r ∷ []
asked_here r d e = ap (λ b. cond b (r ∷ []) []) (eq-eqb r.device d (sym e))

asked_there : (r : Request) (d : ℕ) → d ≢ r.device → asked_of d (r ∷ []) ≡ []
asked_there r d ne = ap (λ b. cond b (r ∷ []) []) (ne_eqb r.device d (λ e. ne (sym e)))

arrival_queue : (r : Request) (s : GatesState) (d : ℕ) → queue_at (after_arrival r s) d ≡ queue_at s d ++ asked_of d (cond (is_full (gate_at s.gates r.device)) [] (r ∷ []))
arrival_queue r s d = by (is_full (gate_at s.gates r.device)) refl where
  by : (b : Bool) → is_full (gate_at s.gates r.device) ≡ b →
      queue_at (cond b s (with_gates s (slice_set s.gates r.device (queued r (gate_at s.gates r.device))))) d ≡ queue_at s d ++ asked_of d (cond b [] (r ∷ []))
  by true e = sym (append-nil (queue_at s d))
  by false e =
      ⊎_elim (λ (same : d ≡ r.device).
      ap (λ n. (gate_at (slice_set s.gates r.device (queued r (gate_at s.gates r.device))) n).queue) same
      ∙ ap (λ (g : GateState). g.queue) (get_or-set_same s.gates r.device (queued r (gate_at s.gates r.device)) no_gate (there_or_full s r.device e))
      ∙ ap (λ n. queue_at s n ++ r ∷ []) (sym same) ∙ ap (λ ys. queue_at s d ++ ys) (sym (asked_here r d same)))
      (λ (ne : d ≡ r.device → ⊥).
      ap (λ (g : GateState). g.queue) (get_or-set_other s.gates r.device d (queued r (gate_at s.gates r.device)) no_gate ne)
      ∙ sym (append-nil (queue_at s d)) ∙ ap (λ ys. queue_at s d ++ ys) (sym (asked_there r d ne)))
      (cases_eq d r.device)

more_asked : (full : Bool) (q : List Request) (r : Request) (more : List Request) (d : ℕ) → (q ++ asked_of d (cond full [] (r ∷ []))) ++ asked_of d more ≡ q ++ asked_of d (cond full more (r ∷ more))
more_asked true q r more d = ap (λ ys. ys ++ asked_of d more) (append-nil q)
more_asked false q r more d =
    append_assoc q (asked_of d (r ∷ [])) (asked_of d more)
    ∙ ap (λ ys. q ++ ys) (sym (filter-append (λ (x : Request). eqb x.device d) (r ∷ []) more))

either_arrives : (b full : Bool) (x y : Arrivals) (q : List Request) (r : Request) (more others : List Request) (d : ℕ) →
    queue_at x.gates d ≡ q ++ asked_of d (cond full more (r ∷ more)) → queue_at y.gates d ≡ q ++ asked_of d others →
    queue_at (cond b x y).gates d ≡ q ++ asked_of d (cond b (cond full more (r ∷ more)) others)
either_arrives true full x y q r more others d h k = h
either_arrives false full x y q r more others d h k = k

-- behind the arrivals of a cycle those wait that have found room
pub arrivals_queue : (now : ℕ) (requests : List Request) (a : Arrivals) (d : ℕ) → queue_at (arrivals now requests a).gates d ≡ queue_at a.gates d ++ asked_of d (found_room now requests a.gates)
arrivals_queue now [] a d = sym (append-nil (queue_at a.gates d))
arrivals_queue now (r ∷ requests) a d =
    let full : Bool = is_full (gate_at a.gates.gates r.device) in
    let more : List Request = found_room now requests (after_arrival r a.gates) in
    either_arrives (eqb r.cycle now) full (arrivals now requests (arrived r a)) (arrivals now requests a) (queue_at a.gates d) r more (found_room now requests a.gates) d
    (arrivals_queue now requests (arrived r a) d ∙ ap (λ ys. ys ++ asked_of d more) (arrival_queue r a.gates d) ∙ more_asked full (queue_at a.gates d) r more d)
    (arrivals_queue now requests a d)

pub arrivals_carried : (now : ℕ) (requests : List Request) (a : Arrivals) → (arrivals now requests a).gates.carried ≡ a.gates.carried
arrivals_carried now [] a = refl
arrivals_carried now (r ∷ requests) a =
    cond_both (eqb r.cycle now) (arrivals now requests (arrived r a)) (arrivals now requests a) (λ (x : Arrivals). x.gates.carried ≡ a.gates.carried)
    (λ _. arrivals_carried now requests (arrived r a)
    ∙ cond_both (is_full (gate_at a.gates.gates r.device)) a.gates
    (with_gates a.gates (slice_set a.gates.gates r.device (queued r (gate_at a.gates.gates r.device))))
    (λ (x : GatesState). x.carried ≡ a.gates.carried) (λ _. refl) (λ _. refl))
    (λ _. arrivals_carried now requests a)

-- ---- the bus

-- those of a device, wherever they are
abbrev pub held : ℕ → List Transfer → Option Carried → GatesState → List Request
held d transfers carried s = transferred_of d transfers ++ carried_of d carried ++ queue_at s d

transferred-append : (d : ℕ) (xs ys : List Transfer) → transferred_of d (xs ++ ys) ≡ transferred_of d xs ++ transferred_of d ys
transferred-append d xs ys =
    ap (map (λ (t : Transfer). t.request)) (filter-append (λ (t : Transfer). eqb t.device d) xs ys)
    ∙ map-append (λ (t : Transfer). t.request) (filter (λ (t : Transfer). eqb t.device d) xs) (filter (λ (t : Transfer). eqb t.device d) ys)

one_transferred : (d : ℕ) (s : GatesState) (c : Carried) (memory : List ℕ) → transferred_of d (transfer_of s c memory ∷ []) ≡ carried_of d (Some c)
one_transferred d s c memory = by (eqb c.device d) where
  t : Transfer
  t = transfer_of s c memory

  by : (b : Bool) → map (λ (x : Transfer). x.request) (cond b (t ∷ []) []) ≡ cond b (c.request ∷ []) []
  by true = refl
  by false = refl

carries_held : (d : ℕ) (clash : Bool) (c : Carried) (s : GatesState) (memory : List ℕ) (transfers : List Transfer) →
    held d (with_last (carries clash c s memory).turn.ended transfers) (carries clash c s memory).gates.carried (carries clash c s memory).gates
    ≡ held d transfers (Some c) s
carries_held d clash c s memory transfers =
    cond_both (leb c.left 1) (ends clash c s memory) (goes_on clash c s memory) (λ (t : Turned). held d (with_last t.turn.ended transfers) t.gates.carried t.gates ≡ held d transfers (Some c) s)
    (λ _. ap (λ ys. ys ++ queue_at s d)
    (append-nil (transferred_of d (transfers ++ transfer_of s c memory ∷ [])) ∙ transferred-append d transfers (transfer_of s c memory ∷ [])
    ∙ ap (λ ys. transferred_of d transfers ++ ys) (one_transferred d s c memory)))
    (λ _. refl)

pub head_of : (q : List Request) (r : Request) → slice_get q 0 ≡ Some r → q ≡ r ∷ drop 1 q
head_of [] r e = absurd (let x : None ≡ Some r = e in cc)
head_of (x ∷ q) r e = let y : Some x ≡ Some r = e in let same : x ≡ r = cc in ap (λ z. z ∷ q) same

-- a request leaves its queue to be carried
taken_held : (d : ℕ) (c : Carried) (s : GatesState) (transfers : List Transfer) → c.device < length s.gates →
    slice_get (queue_at s c.device) 0 ≡ Some c.request → held d transfers (Some c) (taken c.device s) ≡ held d transfers None s
taken_held d c s transfers lt head =
    let g : GateState = without_head (gate_at s.gates c.device) in
    ⊎_elim (λ (same : d ≡ c.device).
    ap (λ b. (transferred_of d transfers ++ cond b (c.request ∷ []) []) ++ queue_at (taken c.device s) d) (eq-eqb c.device d (sym same))
    ∙ ap (λ ys. (transferred_of d transfers ++ c.request ∷ []) ++ ys)
    (ap (λ n. queue_at (taken c.device s) n) same ∙ ap (λ (x : GateState). x.queue) (get_or-set_same s.gates c.device g no_gate lt))
    ∙ append_assoc (transferred_of d transfers) (c.request ∷ []) (drop 1 (queue_at s c.device))
    ∙ ap (λ ys. transferred_of d transfers ++ ys) (sym (head_of (queue_at s c.device) c.request head) ∙ ap (queue_at s) (sym same))
    ∙ ap (λ ys. ys ++ queue_at s d) (sym (append-nil (transferred_of d transfers))))
    (λ (ne : d ≡ c.device → ⊥).
    ap (λ b. (transferred_of d transfers ++ cond b (c.request ∷ []) []) ++ queue_at (taken c.device s) d) (ne_eqb c.device d (λ e. ne (sym e)))
    ∙ ap (λ ys. (transferred_of d transfers ++ []) ++ ys) (ap (λ (x : GateState). x.queue) (get_or-set_other s.gates c.device d g no_gate ne)))
    (cases_eq d c.device)

abbrev HeldIn : ℕ → List Transfer → GatesState → Turned → Type 0
HeldIn d transfers s t = held d (with_last t.turn.ended transfers) t.gates.carried t.gates ≡ held d transfers s.carried s

starts_held : (d now : ℕ) (w : Window) (core : Bool) (start : Option Carried) (s : GatesState) (memory : List ℕ) (transfers : List Transfer) →
    startable now w s ≡ start → s.carried ≡ None → HeldIn d transfers s (starts core start s memory)
starts_held d now w core None s memory transfers is none = refl
starts_held d now w core (Some c) s memory transfers is none =
    let h : IsStart now w s.gates c = startable_is now w s c is in
    carries_held d core c (taken c.device s) memory transfers ∙ taken_held d c s transfers h.there h.head ∙ ap (λ o. held d transfers o s) (sym none)

free_held : (d now : ℕ) (w : Window) (core : CoreWant) (start : Option Carried) (s : GatesState) (memory : List ℕ) (transfers : List Transfer) →
    startable now w s ≡ start → s.carried ≡ None → HeldIn d transfers s (bus_free core start s memory)
free_held d now w No start s memory transfers is none = starts_held d now w false start s memory transfers is none
free_held d now w New start s memory transfers is none = starts_held d now w true start s memory transfers is none
free_held d now w Held start s memory transfers is none = refl

with_held : (d now : ℕ) (w : Window) (core : CoreWant) (carried : Option Carried) (s : GatesState) (memory : List ℕ) (transfers : List Transfer) →
    s.carried ≡ carried → HeldIn d transfers s (bus_with core carried (startable now w s) s memory)
with_held d now w core (Some c) s memory transfers is = carries_held d (wants core) c s memory transfers ∙ ap (λ o. held d transfers o s) (sym is)
with_held d now w core None s memory transfers is = free_held d now w core (startable now w s) s memory transfers refl is

-- a cycle of the bus changes only where a request is
pub turn_held : (d now : ℕ) (w : Window) (core : CoreWant) (s : GatesState) (memory : List ℕ) (transfers : List Transfer) → HeldIn d transfers s (bus_turn now w core s memory)
turn_held d now w core s memory transfers = with_held d now w core s.carried s memory transfers refl

-- ---- a cycle

pub ticked_transfers : (b : Bool) (s : MachineState) → (cond b s (next_cycle s)).log.transfers ≡ s.log.transfers
ticked_transfers true s = refl
ticked_transfers false s = (settle_keeps s.core.mode (with_now s (s.now + 1))).transfers

pub cycle_transfers : (rule : ReplacementRule) (p : Setup) (a : Arrivals) (b : Turned) (s : MachineState) → (cycle_with rule p a b s).log.transfers ≡ with_last b.turn.ended s.log.transfers
cycle_transfers rule p a b s = ticked_transfers (is_some (core_at rule p b s).trapped) (joined a b (core_at rule p b s) s)

cycle_held : (rule : ReplacementRule) (p : Setup) (requests : List Request) (d : ℕ) (s : MachineState) →
    held_of d (cycle_of rule p requests s) ≡ held_of d s ++ asked_of d (found_room s.now requests s.gates)
cycle_held rule p requests d s =
    let a : Arrivals = arrivals_at requests s in
    let b : Turned = bus_at a.gates s in
    ap (λ ts. held d ts (cycle_with rule p a b s).gates.carried (cycle_with rule p a b s).gates) (cycle_transfers rule p a b s)
    ∙ ap (λ (g : GatesState). held d (with_last b.turn.ended s.log.transfers) g.carried g) (cycle_gates rule p a b s)
    ∙ turn_held d s.now s.core.window (want_of s.core.debt) a.gates s.work.memory s.log.transfers
    ∙ ap (λ o. held d s.log.transfers o a.gates) (arrivals_carried s.now requests (record { gates = s.gates; dropped = s.log.dropped }))
    ∙ ap (λ q. (transferred_of d s.log.transfers ++ carried_of d s.gates.carried) ++ q) (arrivals_queue s.now requests (record { gates = s.gates; dropped = s.log.dropped }) d)
    ∙ sym (append_assoc (transferred_of d s.log.transfers ++ carried_of d s.gates.carried) (queue_at s.gates d) (asked_of d (found_room s.now requests s.gates)))

step_held : (rule : ReplacementRule) (p : Setup) (requests : List Request) (d : ℕ) (s : MachineState) → held_of d (step_of rule p requests s) ≡ held_of d s ++ asked_of d (coming_requests requests s)
step_held rule p requests d s = by (is_over s) where
  by : (b : Bool) → held_of d (cond b s (cycle_of rule p requests s)) ≡ held_of d s ++ asked_of d (cond b [] (found_room s.now requests s.gates))
  by true = sym (append-nil (held_of d s))
  by false = cycle_held rule p requests d s

-- ---- a run

cycles_held : (rule : ReplacementRule) (p : Setup) (requests : List Request) (d : ℕ) (n : ℕ) (s : MachineState) → held_of d s ≡ [] →
    held_of d (cycles_of rule p requests n s) ≡ asked_of d (queued_of rule p requests n s)
unfolding cycles_of queued_of
cycles_held rule p requests d zero s h = h
cycles_held rule p requests d (suc n) s h =
    step_held rule p requests d (cycles_of rule p requests n s)
    ∙ ap (λ ys. ys ++ asked_of d (coming_requests requests (cycles_of rule p requests n s))) (cycles_held rule p requests d n s h)
    ∙ sym (filter-append (λ (x : Request). eqb x.device d) (queued_of rule p requests n s) (coming_requests requests (cycles_of rule p requests n s)))

pub start_queues : (ds : List Device) (areas : List ℕ) (d : ℕ) → (gate_at (gates_of ds areas) d).queue ≡ []
start_queues [] areas d = refl
start_queues (x ∷ ds) [] d = refl
start_queues (x ∷ ds) (a ∷ areas) zero = refl
start_queues (x ∷ ds) (a ∷ areas) (suc d) = start_queues ds areas d

pub start_held : (p : Setup) (inputs : List (List ℕ)) (memory : List ℕ) (d : ℕ) → held_of d (start_of p inputs memory) ≡ []
start_held p inputs memory d = start_queues (map (λ (x : DeviceRecord). x.device) p.devices) (map (λ (x : DeviceRecord). x.area) p.devices) d

-- whatever the image is
pub requests_held : RequestsAreHeld
requests_held rule p content inputs requests n d =
    cycles_held rule p requests d n (start_of p inputs (memory_of p content)) (start_held p inputs (memory_of p content) d)
