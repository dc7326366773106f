-- What the bus carries stays inside the window, and where the window is closed it carries nothing.
use Rattle.std.proofs.Common.{◌≡◌, ℕ, ◌+◌, ◌<◌, ◌≤◌, refl, ap, sym, subst, arith, eqb, leb, Some, None, Option, true, false, Bool, List, [], ◌∷◌, ◌++◌, length, drop, IfSome, ⊎_elim}
use Rattle.prem_cycle.proofs.Prelude.{Arrivals, arrived, arrivals, LiesInside, CarriesInside, IsQuiet, startable_is, GateState, GatesState, Turned, gate_at, no_gate, with_queue, with_gates}
use Rattle.prem_cycle.proofs.Prelude.{queued, after_arrival, startable, taken, ends, goes_on, carries, wants, starts, bus_free, bus_with, bus_turn, IsStart, Carried, CoreWant, No, New, Held}
use Rattle.prem_cycle.proofs.Prelude.{Window, Request, cases_lt, cond_both, leb-false, get_or_past, All-set, slice_set, All}
use Rattle.prem_gate.specs.Gates.{is_full}

-- ---- costs

abbrev Costs : List GateState → Type 0
Costs gates = All (λ (g : GateState). 1 ≤ g.cost) gates

cost_at : (gates : List GateState) (d : ℕ) → Costs gates → 1 ≤ (gate_at gates d).cost
cost_at gates d all =
    ⊎_elim (λ (lt : d < length gates). all d no_gate lt)
    (λ (past : length gates ≤ d).
    let e : (gate_at gates d).cost ≡ 1 = ap (λ (g : GateState). g.cost) (get_or_past gates d no_gate past) in
    omega (arith, e))
    (cases_lt d (length gates))

-- another queue of a gate
set_costs : (s : GatesState) (d : ℕ) (q : List Request) → Costs s.gates → Costs (slice_set s.gates d (with_queue (gate_at s.gates d) q))
set_costs s d q all =
    All-set (λ (g : GateState). 1 ≤ g.cost) s.gates d (with_queue (gate_at s.gates d) q) (cost_at s.gates d all) all

-- ---- arrivals

arrival_inside : (now : ℕ) (w : Window) (r : Request) (s : GatesState) → CarriesInside now w s → CarriesInside now w (after_arrival r s)
arrival_inside now w r s h =
    cond_both (is_full (gate_at s.gates r.device)) s (with_gates s (slice_set s.gates r.device (queued r (gate_at s.gates r.device)))) (CarriesInside now w)
    (λ _. h)
    (λ _. record { carried = h.carried; costs = set_costs s r.device ((gate_at s.gates r.device).queue ++ r ∷ []) h.costs })

pub arrivals_inside : (now : ℕ) (w : Window) (t : ℕ) (requests : List Request) (a : Arrivals) → CarriesInside now w a.gates → CarriesInside now w (arrivals t requests a).gates
arrivals_inside now w t [] a h = h
arrivals_inside now w t (r ∷ requests) a h =
    cond_both (eqb r.cycle t) (arrivals t requests (arrived r a)) (arrivals t requests a) (λ (x : Arrivals). CarriesInside now w x.gates)
    (λ _. arrivals_inside now w t requests (arrived r a) (arrival_inside now w r a.gates h))
    (λ _. arrivals_inside now w t requests a h)

-- ---- the bus

-- a transfer that has the bus is nearer to its end behind the cycle
carries_inside : (now : ℕ) (w : Window) (clash : Bool) (c : Carried) (s : GatesState) (memory : List ℕ) → LiesInside now w c → Costs s.gates →
    CarriesInside (now + 1) w (carries clash c s memory).gates
carries_inside now w clash c s memory l all =
    cond_both (leb c.left 1) (ends clash c s memory) (goes_on clash c s memory) (λ (t : Turned). CarriesInside (now + 1) w t.gates)
    (λ _. record { carried = tt; costs = all })
    (λ more.
    let two : 1 < c.left = leb-false c.left 1 more in
    let close : now + c.left ≤ w.close = l.before_close in
    record { carried = record { some = omega arith; after_start = l.after_start; before_close = omega arith }; costs = all })

stays_inside : (now : ℕ) (w : Window) (s : GatesState) → s.carried ≡ None → Costs s.gates → CarriesInside (now + 1) w s
stays_inside now w s none all = record { carried = subst (λ (o : Option Carried). IfSome o (LiesInside (now + 1) w)) (sym none) tt; costs = all }

-- a transfer that starts lies inside the window
starts_inside : (now : ℕ) (w : Window) (core : Bool) (start : Option Carried) (s : GatesState) (memory : List ℕ) → startable now w s ≡ start →
    s.carried ≡ None → Costs s.gates → CarriesInside (now + 1) w (starts core start s memory).gates
starts_inside now w core None s memory is none all = stays_inside now w s none all
starts_inside now w core (Some c) s memory is none all =
    let h : IsStart now w s.gates c = startable_is now w s c is in
    let cost : 1 ≤ (gate_at s.gates c.device).cost = cost_at s.gates c.device all in
    let start : w.start ≤ now = h.after_start in
    let first : c.first ≡ now = h.now_first in
    let left : c.left ≡ (gate_at s.gates c.device).cost = h.cost in
    carries_inside now w core c (taken c.device s) memory
    (record { some = omega arith; after_start = omega arith; before_close = h.before_close })
    (set_costs s c.device (drop 1 (gate_at s.gates c.device).queue) all)

free_inside : (now : ℕ) (w : Window) (core : CoreWant) (start : Option Carried) (s : GatesState) (memory : List ℕ) → startable now w s ≡ start →
    s.carried ≡ None → Costs s.gates → CarriesInside (now + 1) w (bus_free core start s memory).gates
free_inside now w No start s memory is none all = starts_inside now w false start s memory is none all
free_inside now w New start s memory is none all = starts_inside now w true start s memory is none all
free_inside now w Held start s memory is none all = stays_inside now w s none all

with_inside : (now : ℕ) (w : Window) (core : CoreWant) (carried : Option Carried) (s : GatesState) (memory : List ℕ) → s.carried ≡ carried →
    IfSome carried (LiesInside now w) → Costs s.gates → CarriesInside (now + 1) w (bus_with core carried (startable now w s) s memory).gates
with_inside now w core (Some c) s memory is l all = carries_inside now w (wants core) c s memory l all
with_inside now w core None s memory is l all = free_inside now w core (startable now w s) s memory refl is all

-- what is carried behind a cycle of the bus lies inside the window
pub turn_inside : (now : ℕ) (w : Window) (core : CoreWant) (s : GatesState) (memory : List ℕ) → CarriesInside now w s → CarriesInside (now + 1) w (bus_turn now w core s memory).gates
turn_inside now w core s memory h = with_inside now w core s.carried s memory refl h.carried h.costs

-- ---- a closed window

pub none_inside : (now : ℕ) (w : Window) (carried : Option Carried) → w.close ≤ now → IfSome carried (LiesInside now w) → carried ≡ None
none_inside now w None closed l = refl
none_inside now w (Some c) closed l =
    let some : 1 ≤ c.left = l.some in
    let close : now + c.left ≤ w.close = l.before_close in
    absurd (omega arith)

none_starts : (now : ℕ) (w : Window) (s : GatesState) (start : Option Carried) → w.close ≤ now → Costs s.gates → startable now w s ≡ start → start ≡ None
none_starts now w s None closed all is = refl
none_starts now w s (Some c) closed all is =
    let h : IsStart now w s.gates c = startable_is now w s c is in
    let cost : 1 ≤ (gate_at s.gates c.device).cost = cost_at s.gates c.device all in
    let left : c.left ≡ (gate_at s.gates c.device).cost = h.cost in
    let close : now + c.left ≤ w.close = h.before_close in
    absurd (omega arith)

free_quiet : (core : CoreWant) (s : GatesState) (memory : List ℕ) → s.carried ≡ None → IsQuiet s memory (bus_free core None s memory)
free_quiet No s memory none = record { before = none; after = none; ends_none = refl; same = refl }
free_quiet New s memory none = record { before = none; after = none; ends_none = refl; same = refl }
free_quiet Held s memory none = record { before = none; after = none; ends_none = refl; same = refl }

-- nothing is carried, and nothing starts
pub turn_quiet : (now : ℕ) (w : Window) (core : CoreWant) (s : GatesState) (memory : List ℕ) → w.close ≤ now → CarriesInside now w s → IsQuiet s memory (bus_turn now w core s memory)
turn_quiet now w core s memory closed h =
    let none : s.carried ≡ None = none_inside now w s.carried closed h.carried in
    let still : startable now w s ≡ None = none_starts now w s (startable now w s) closed h.costs refl in
    subst (λ (o : Option Carried). IsQuiet s memory (bus_with core o (startable now w s) s memory)) (sym none)
    (subst (λ (o : Option Carried). IsQuiet s memory (bus_with core None o s memory)) (sym still)
    (free_quiet core s memory none))
