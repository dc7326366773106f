-- So does a cycle of the machine, and a run.
use Rattle.std.proofs.Common.{◌≡◌, ℕ, zero, suc, ◌+◌, refl, ap, sym, subst, ◌∙◌, arith, cond, ltb, Some, None, Option, true, false, Bool, List, [], ◌∷◌, map, IfSome}
use Rattle.std.specs.Prelude.{is_some, ◌&&◌, ◌||◌}
use Rattle.prem_cycle.proofs.Prelude.{is_paid, want_of, Arrivals, arrivals_at, bus_at, core_at, joined, ends_before, at_point, close_interval, settle, with_now, next_cycle, ticked, cycle_of}
use Rattle.prem_cycle.proofs.Prelude.{is_finished, is_full, is_over, step_of, memory_of, cycles_of, run_of, IsOnItsWay, EndsInTime, TransfersTakeTheirCycles, TransfersAreOnTheirWay}
use Rattle.prem_cycle.proofs.Prelude.{HaveCosts, Setup, MachineState, start_of, Mode, Point, Switching, Running, Idle, Turned, gates_of, Request, DeviceRecord, ReplacementRule, cond_both}
use Rattle.prem_cycle.proofs.RunsLemmas.TransferLemmas.Bus.{costs_of, costs_in, GatesKeep, TurnKeeps, arrivals_keep, turn_keeps}

-- ---- states

-- a state of a run
record Keeps (devices : List DeviceRecord) (s : MachineState) : Type 0 where
  costs : costs_of s.gates.gates ≡ costs_in devices
  carried : s.trapped ≡ None → IfSome s.gates.carried (IsOnItsWay devices s.now)

-- what is over is settled without the gates and the transfers
record Settles (s next : MachineState) : Type 0 where
  gates : next.gates ≡ s.gates
  transfers : next.log.transfers ≡ s.log.transfers
  now : next.now ≡ s.now

same_state : (s : MachineState) → Settles s s
same_state s = record { gates = refl; transfers = refl; now = refl }

settles : (m : Mode) (s : MachineState) → Settles s (settle m s)
settles Point s = same_state s
settles (Switching k left) s = same_state s
settles (Running k) s =
    cond_both (is_paid s.core.debt && ends_before s.now s.core.interval s.core.mark) (close_interval k s) s (Settles s)
    (λ _. record { gates = refl; transfers = refl; now = refl }) (λ _. same_state s)
settles (Idle until) s =
    cond_both (ltb s.now until) s (record s { core = at_point s.core }) (Settles s)
    (λ _. same_state s) (λ _. record { gates = refl; transfers = refl; now = refl })

-- ---- a cycle

-- behind the core's move
record Ticking (devices : List DeviceRecord) (old s : MachineState) : Type 0 where
  gates : GatesKeep devices (s.now + 1) s.gates
  ended : EndsInTime devices old s

-- behind the cycle
record Went (devices : List DeviceRecord) (s next : MachineState) : Type 0 where
  keeps : Keeps devices next
  ended : EndsInTime devices s next

ticked_keeps : (devices : List DeviceRecord) (old s : MachineState) → Ticking devices old s → Went devices old (ticked s)
ticked_keeps devices old s h = by (is_some s.trapped) refl
  where
    by : (b : Bool) → is_some s.trapped ≡ b → Went devices old (cond b s (next_cycle s))
    by true is = record { keeps = record { costs = h.gates.costs; carried = λ none. absurd (let x : ◌≡◌ {A = Bool} false true = sym (ap is_some none) ∙ is in cc) }; ended = h.ended }
    by false is =
        let t = settles s.core.mode (with_now s (s.now + 1)) in
        record {
          keeps = record {
            costs = ap (λ g. costs_of g.gates) t.gates ∙ h.gates.costs;
            carried = λ none. subst (λ g. IfSome g.carried (IsOnItsWay devices (next_cycle s).now)) (sym t.gates)
                (subst (λ n. IfSome s.gates.carried (IsOnItsWay devices n)) (sym t.now) h.gates.carried);
          };
          ended = record { ended = h.ended.ended; log = t.transfers ∙ h.ended.log; time = h.ended.time };
        }

cycle_keeps : (devices : List DeviceRecord) (rule : ReplacementRule) (p : Setup) (requests : List Request) (s : MachineState) → HaveCosts devices →
    s.trapped ≡ None → Keeps devices s → Went devices s (cycle_of rule p requests s)
cycle_keeps devices rule p requests s all none h =
    let a : Arrivals = arrivals_at requests s in
    let b : Turned = bus_at a.gates s in
    let start : GatesKeep devices s.now s.gates = record { costs = h.costs; carried = h.carried none } in
    let t : TurnKeeps devices s.now b =
    turn_keeps devices s.now s.core.window (want_of s.core.debt) a.gates s.work.memory all
    (arrivals_keep devices s.now s.now requests (record { gates = s.gates; dropped = s.log.dropped }) start) in
    ticked_keeps devices s (joined a b (core_at rule p b s) s)
    (record { gates = t.gates; ended = record { ended = b.turn.ended; log = refl; time = t.ended } })

-- ---- runs

stays : (devices : List DeviceRecord) (s : MachineState) → Keeps devices s → Went devices s s
stays devices s h = record { keeps = h; ended = record { ended = None; log = refl; time = tt } }

or_false : (a b : Bool) → (a || b) ≡ false → (a ≡ false) × (b ≡ false)
or_false true b is = absurd (let x : ◌≡◌ {A = Bool} true false = is in cc)
or_false false b is = (refl, is)

none_is : {A : Type 0} (o : Option A) → is_some o ≡ false → o ≡ None
none_is None is = refl
none_is (Some x) is = absurd (let y : ◌≡◌ {A = Bool} true false = is in cc)

-- a state that isn't over hasn't trapped
goes_on : (s : MachineState) → is_over s ≡ false → s.trapped ≡ None
goes_on s is = none_is s.trapped (or_false (is_finished s) (is_some s.trapped) (or_false (is_finished s || is_some s.trapped) (is_full s) is).0).1

step_keeps : (devices : List DeviceRecord) (rule : ReplacementRule) (p : Setup) (requests : List Request) (s : MachineState) → HaveCosts devices →
    Keeps devices s → Went devices s (step_of rule p requests s)
step_keeps devices rule p requests s all h =
    cond_both (is_over s) s (cycle_of rule p requests s) (Went devices s) (λ _. stays devices s h)
    (λ on. cycle_keeps devices rule p requests s all (goes_on s on) h)

cycles_keep : (devices : List DeviceRecord) (rule : ReplacementRule) (p : Setup) (requests : List Request) (n : ℕ) (s : MachineState) →
    HaveCosts devices → Keeps devices s → Keeps devices (cycles_of rule p requests n s)
unfolding cycles_of
cycles_keep devices rule p requests zero s all h = h
cycles_keep devices rule p requests (suc n) s all h =
    (step_keeps devices rule p requests (cycles_of rule p requests n s) all (cycles_keep devices rule p requests n s all h)).keeps

start_costs : (devices : List DeviceRecord) → costs_of (gates_of (map (λ d. d.device) devices) (map (λ d. d.area) devices)) ≡ costs_in devices
start_costs [] = refl
start_costs (d ∷ devices) = ap (λ t. d.device.cost ∷ t) (start_costs devices)

start_keeps : (p : Setup) (inputs : List (List ℕ)) (memory : List ℕ) → Keeps p.devices (start_of p inputs memory)
start_keeps p inputs memory = record { costs = start_costs p.devices; carried = λ none. tt }

run_keeps : (rule : ReplacementRule) (p : Setup) (content : List ℕ) (inputs : List (List ℕ)) (requests : List Request) (n : ℕ) → HaveCosts p.devices →
    Keeps p.devices (run_of rule p content inputs requests n)
run_keeps rule p content inputs requests n all =
    cycles_keep p.devices rule p requests n (start_of p inputs (memory_of p content)) all (start_keeps p inputs (memory_of p content))

next_is : (rule : ReplacementRule) (p : Setup) (requests : List Request) (n : ℕ) (s : MachineState) → cycles_of rule p requests (suc n) s ≡ step_of rule p requests (cycles_of rule p requests n s)
unfolding cycles_of
next_is rule p requests n s = refl

pub runs_take_their_cycles : TransfersTakeTheirCycles
runs_take_their_cycles rule p content inputs requests n all =
    let s = run_of rule p content inputs requests n in
    let one : suc n ≡ n + 1 = omega arith in
    subst (λ k. EndsInTime p.devices s (run_of rule p content inputs requests k)) one
    (subst (EndsInTime p.devices s) (sym (next_is rule p requests n (start_of p inputs (memory_of p content))))
    (step_keeps p.devices rule p requests s all (run_keeps rule p content inputs requests n all)).ended)

pub runs_are_on_their_way : TransfersAreOnTheirWay
runs_are_on_their_way rule p content inputs requests n all none = (run_keeps rule p content inputs requests n all).carried none
