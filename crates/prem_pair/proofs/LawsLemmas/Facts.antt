-- What a cycle of two cores has for each of them: who holds the token has the bus, and no two want it.
use Rattle.std.proofs.Common.{◌≡◌, ℕ, zero, suc, ◌/◌, ◌<◌, ◌≤◌, refl, ap, ◌∙◌, sym, subst, arith, Some, None, Option, true, false, Bool, List, [], ◌∷◌, length, get_or, IfSome}
use Rattle.std.specs.Prelude.{All, is_some, ◌&&◌, not}
use Rattle.prem_pair.proofs.Prelude.{move_cases, AreGates, arrivals_gates, Turns, bus_turns, written_keeps, does, stands_still, MayMoveIn, want_of, CoreMove, Passes, phase_in, Arrivals}
use Rattle.prem_pair.proofs.Prelude.{arrivals_at, with_memory, move_at, is_finish, is_finished_in, is_finished, IsRequest, IsFree, Setup, MachineState, Mode, Point, Switching, Running, Idle}
use Rattle.prem_pair.proofs.Prelude.{GateState, Turned, no_gate, wants, bus_turn, Carried, CoreWant, No, Request, IsPlaced, PairState, move_under, holder_at, bus_for, clashes, bus_first}
use Rattle.prem_pair.proofs.Prelude.{bus_second, is_run, asks_in, asks, some_wait, given, holder_with, is_first, is_second, empty_window, window_got, window_given, want_with, is_gates}
use Rattle.prem_pair.proofs.Prelude.{two_want, Holder, Nobody, First, Second, Gates, choice, Run, TaskJobs, Meets, needs_in, arrivals_carried, cond_both}
use Rattle.prem_cycle.proofs.RunsLemmas.InputsLemmas.Wants.{and_second}
use Rattle.prem_cycle.proofs.RunsLemmas.WindowLemmas.Bus.{turn_quiet}
use Rattle.prem_cycle.specs.Runs.Window.Windows.{LiesInside, CarriesInside, IsQuiet}
use Rattle.prem_pair.proofs.LawsLemmas.Gating.{transfers, Gated, HaveCosts, arrivals_gated, turn_goes_on, turn_got}
use Rattle.prem_pair.proofs.LawsLemmas.Hosted.{Hosted, CoreHolds}
use Rattle.prem_pair.proofs.LawsLemmas.Tokens.{core_needs, first_keeps, second_keeps, gates_keep}
use Rattle.prem_sched.specs.declared.sched.Choice.{Choice}
use Rattle.prem_sched.specs.declared.sched.Choice.TheVariants.{Idle as Rest, Finished}
use Rattle.prem_sound.proofs.ResidentLemmas.Clashes.{turn_serves}

-- ---- small facts

pub none_of : (o : Option Carried) → is_some o ≡ false → o ≡ None
none_of None h = refl
none_of (Some c) h = absurd (let x : true ≡ false = h in cc)

pub not_true : (b : Bool) → (b ≡ true → ⊥) → b ≡ false
not_true true h = absurd (h refl)
not_true false h = refl

pub both_true : (a b : Bool) → a ≡ true → b ≡ true → (a && b) ≡ true
both_true true b e f = f
both_true false b e f = e

asks_point : (now : ℕ) (sched : List TaskJobs) (mode : Mode) → asks_in now sched mode ≡ true → mode ≡ Point
asks_point now sched Point h = refl
asks_point now sched (Switching k left) h = absurd (let x : false ≡ true = h in cc)
asks_point now sched (Running k) h = absurd (let x : false ≡ true = h in cc)
asks_point now sched (Idle until) h = absurd (let x : false ≡ true = h in cc)

-- a core that has finished neither needs the token nor asks for it
finish_no_run : (c : Choice) → is_finish c ≡ true → is_run c ≡ true → ⊥
finish_no_run (Run k) e f = let x : false ≡ true = e in cc
finish_no_run (Rest until) e f = let x : false ≡ true = f in cc
finish_no_run Finished e f = let x : false ≡ true = f in cc

pub finished_asks : (now : ℕ) (sched : List TaskJobs) (mode : Mode) → is_finished_in now sched mode ≡ true → asks_in now sched mode ≡ true → ⊥
finished_asks now sched Point e f = finish_no_run (choice now sched) e f
finished_asks now sched (Switching k left) e f = let x : false ≡ true = e in cc
finished_asks now sched (Running k) e f = let x : false ≡ true = e in cc
finished_asks now sched (Idle until) e f = let x : false ≡ true = e in cc

pub finished_needs : (s : MachineState) → is_finished s ≡ true → core_needs s ≡ true → ⊥
finished_needs s e f = by s.core.mode refl e f where
  by : (m : Mode) → s.core.mode ≡ m → is_finished_in s.now s.sched m ≡ true → needs_in (phase_in s.work) s.core.mark m ≡ true → ⊥
  by Point x e f = let y : false ≡ true = f in cc
  by (Switching k left) x e f = let y : false ≡ true = e in cc
  by (Running k) x e f = let y : false ≡ true = e in cc
  by (Idle until) x e f = let y : false ≡ true = e in cc

-- a core may do what it does under a token
may_under : (holds : Bool) (p : Setup) (b : Turned) (s : MachineState) → MayMoveIn p b s (move_under holds p b s)
may_under holds p b s =
    cond_both (not holds && asks s) (Passes s.core) (move_at p b s) (MayMoveIn p b s)
    (λ yes. stands_still (asks_point s.now s.sched s.core.mode (and_second (not holds) (asks s) yes)))
    (λ _. does (move_at p b s) (move_cases p s.now b.turn.core s.sched (with_memory b.memory s.work) s.core))

-- ---- at most one wants the bus

no_two : (h : Holder) (a b c : Bool) → (a ≡ true → is_first h ≡ true) → (b ≡ true → is_second h ≡ true) → (c ≡ true → is_gates h ≡ true) → two_want a b c ≡ false
no_two h false false c x y z = refl
no_two h false true false x y z = refl
no_two h true false false x y z = refl
no_two Nobody true true c x y z = absurd (let v : false ≡ true = x refl in cc)
no_two First true true c x y z = absurd (let v : false ≡ true = y refl in cc)
no_two Second true true c x y z = absurd (let v : false ≡ true = x refl in cc)
no_two Gates true true c x y z = absurd (let v : false ≡ true = x refl in cc)
no_two Nobody true false true x y z = absurd (let v : false ≡ true = x refl in cc)
no_two First true false true x y z = absurd (let v : false ≡ true = z refl in cc)
no_two Second true false true x y z = absurd (let v : false ≡ true = x refl in cc)
no_two Gates true false true x y z = absurd (let v : false ≡ true = x refl in cc)
no_two Nobody false true true x y z = absurd (let v : false ≡ true = y refl in cc)
no_two First false true true x y z = absurd (let v : false ≡ true = y refl in cc)
no_two Second false true true x y z = absurd (let v : false ≡ true = z refl in cc)
no_two Gates false true true x y z = absurd (let v : false ≡ true = y refl in cc)

first_no_gates : (h : Holder) → is_first h ≡ true → is_gates h ≡ false
first_no_gates First e = refl
first_no_gates Nobody e = refl
first_no_gates Second e = refl
first_no_gates Gates e = absurd (let v : false ≡ true = e in cc)

second_no_gates : (h : Holder) → is_second h ≡ true → is_gates h ≡ false
second_no_gates First e = refl
second_no_gates Nobody e = refl
second_no_gates Second e = refl
second_no_gates Gates e = absurd (let v : false ≡ true = e in cc)

first_wants : (h : Holder) (a b : CoreWant) → is_first h ≡ true → want_with h a b ≡ a
first_wants First a b e = refl
first_wants Nobody a b e = absurd (let v : false ≡ true = e in cc)
first_wants Second a b e = absurd (let v : false ≡ true = e in cc)
first_wants Gates a b e = absurd (let v : false ≡ true = e in cc)

second_wants : (h : Holder) (a b : CoreWant) → is_second h ≡ true → want_with h a b ≡ b
second_wants Second a b e = refl
second_wants Nobody a b e = absurd (let v : false ≡ true = e in cc)
second_wants First a b e = absurd (let v : false ≡ true = e in cc)
second_wants Gates a b e = absurd (let v : false ≡ true = e in cc)

closed_window : (now : ℕ) (before after : Holder) → is_gates after ≡ false → window_given now before after ≡ empty_window
closed_window now First after e = refl
closed_window now Second after e = refl
closed_window now Gates after e = refl
closed_window now Nobody Nobody e = refl
closed_window now Nobody First e = refl
closed_window now Nobody Second e = refl
closed_window now Nobody Gates e = absurd (let v : true ≡ false = e in cc)

-- ---- a state

-- the devices of core 0: their lines hold no byte of its tasks
pub record HostsDevices (g : Hosted) (requests : List Request) : Type 0 where
  pub placed : All (IsPlaced g.setup.plant.line g.setup.plant.memory) g.setup.devices
  pub asked : All (IsRequest g.setup.devices) requests
  pub free : (k a : ℕ) → k < length g.setup.tasks → g.own k a ≡ true → IsFree g.setup (a / g.setup.plant.line)
  pub costs : HaveCosts g.setup

-- a core holds the token just where it needs the bus, and the gates where they carry a transfer
pub record Tokened (s : PairState) : Type 0 where
  pub first : is_first s.holder ≡ core_needs s.first
  pub second : is_second s.holder ≡ core_needs s.second
  pub gates : is_gates s.holder ≡ is_some s.first.gates.carried

module _ (g k : Hosted) (requests : List Request) (d : HostsDevices g requests) (s : PairState) (t : Tokened s) (gates : AreGates g.setup s.first.gates) (gated : Gated g.setup s.first.gates) where
  abbrev pub arrived_now : Arrivals
  arrived_now = arrivals_at requests s.first

  abbrev pub holder_now : Holder
  holder_now = holder_at arrived_now.gates s

  abbrev pub bus_now : Turned
  bus_now = bus_for holder_now arrived_now.gates s

  abbrev want_now : CoreWant
  want_now = want_with holder_now (want_of s.first.core.debt) (want_of s.second.core.debt)

  same_carried : arrived_now.gates.carried ≡ s.first.gates.carried
  same_carried = arrivals_carried s.first.now requests (record { gates = s.first.gates; dropped = s.first.log.dropped })

  pub gated_now : Gated g.setup arrived_now.gates
  gated_now = arrivals_gated g.setup s.first.now requests (record { gates = s.first.gates; dropped = s.first.log.dropped }) gated

  all_costs : All (λ (x : GateState). 1 ≤ x.cost) arrived_now.gates.gates
  all_costs i e lt =
      let ld : i < length g.setup.devices = omega (arith, lt, gated_now.count) in
      subst (λ (x : GateState). 1 ≤ x.cost) (sym (get_any arrived_now.gates.gates i e no_gate lt)) (omega (arith, gated_now.costs i ld, d.costs.least i ld)) where
        get_any : (xs : List GateState) (i : ℕ) (e z : GateState) → i < length xs → get_or xs i e ≡ get_or xs i z
        get_any [] i e z lt = absurd (omega (arith, lt))
        get_any (x ∷ xs) zero e z lt = refl
        get_any (x ∷ xs) (suc i) e z lt = get_any xs i e z (omega (arith, lt))

  -- where the gates don't have the token nothing is carried, and nothing starts
  none_carried : is_gates holder_now ≡ false → arrived_now.gates.carried ≡ None
  none_carried e =
      same_carried ∙ none_of s.first.gates.carried (sym t.gates ∙ not_true (is_gates s.holder) (λ x.
      let y : true ≡ false = sym (gates_keep s.holder (asks s.first) (asks s.second) (some_wait arrived_now.gates.gates) x) ∙ e in cc))

  inside : is_gates holder_now ≡ false → CarriesInside s.first.now empty_window arrived_now.gates
  inside e = record { carried = subst (λ (o : Option Carried). IfSome o (LiesInside s.first.now empty_window)) (sym (none_carried e)) tt; costs = all_costs }

  bus_closed : is_gates holder_now ≡ false → bus_now ≡ bus_turn s.first.now empty_window want_now arrived_now.gates s.first.work.memory
  bus_closed e = ap (λ w. bus_turn s.first.now w want_now arrived_now.gates s.first.work.memory) (closed_window s.first.now s.holder holder_now e)

  pub quiet_now : is_gates holder_now ≡ false → IsQuiet arrived_now.gates s.first.work.memory bus_now
  quiet_now e =
      subst (IsQuiet arrived_now.gates s.first.work.memory) (sym (bus_closed e))
      (turn_quiet s.first.now empty_window want_now arrived_now.gates s.first.work.memory (omega arith) (inside e))

  -- where they have it, a transfer has the bus
  got_from : (before : Holder) → is_gates before ≡ is_some arrived_now.gates.carried → is_gates (holder_with before (asks s.first) (asks s.second) (some_wait arrived_now.gates.gates)) ≡ true →
      transfers (bus_turn s.first.now (window_given s.first.now before (holder_with before (asks s.first) (asks s.second) (some_wait arrived_now.gates.gates)))
      (want_with (holder_with before (asks s.first) (asks s.second) (some_wait arrived_now.gates.gates)) (want_of s.first.core.debt)
      (want_of s.second.core.debt)) arrived_now.gates s.first.work.memory) ≡ true
  got_from First same e = absurd (let x : false ≡ true = e in cc)
  got_from Second same e = absurd (let x : false ≡ true = e in cc)
  got_from Gates same e = turn_goes_on s.first.now empty_window No arrived_now.gates s.first.work.memory (sym same)
  got_from Nobody same e = by (asks s.first) (asks s.second) (some_wait arrived_now.gates.gates) refl e where
    by : (x y z : Bool) → some_wait arrived_now.gates.gates ≡ z → is_gates (given x y z) ≡ true →
        transfers (bus_turn s.first.now (window_got s.first.now (given x y z))
        (want_with (given x y z) (want_of s.first.core.debt) (want_of s.second.core.debt)) arrived_now.gates s.first.work.memory) ≡ true
    by true y z w e = absurd (let v : false ≡ true = e in cc)
    by false true z w e = absurd (let v : false ≡ true = e in cc)
    by false false false w e = absurd (let v : false ≡ true = e in cc)
    by false false true w e = turn_got g.setup s.first.now arrived_now.gates s.first.work.memory d.costs gated_now w

  pub gates_transfer : is_gates holder_now ≡ true → transfers bus_now ≡ true
  gates_transfer e = got_from s.holder (t.gates ∙ sym (ap (λ (o : Option Carried). is_some o) same_carried)) e

  -- ---- the cores

  module _ (off off' : ℕ) (at at' : ℕ → ℕ) (first : CoreHolds g off at s.first) (second : CoreHolds k off' at' s.second) where
    first_wanting : wants (want_of s.first.core.debt) ≡ true → is_first holder_now ≡ true
    first_wanting w = first_keeps s.holder (asks s.first) (asks s.second) (some_wait arrived_now.gates.gates) (t.first ∙ first.needs.owes w)

    second_wanting : wants (want_of s.second.core.debt) ≡ true → is_second holder_now ≡ true
    second_wanting w = second_keeps s.holder (asks s.first) (asks s.second) (some_wait arrived_now.gates.gates) (t.second ∙ second.needs.owes w)

    calm_now : clashes holder_now s ≡ false
    calm_now = no_two holder_now (wants (want_of s.first.core.debt)) (wants (want_of s.second.core.debt)) (is_gates holder_now) first_wanting second_wanting (λ e. e)

    -- a core that holds the token has the bus for what it owes
    serves_holder : is_gates holder_now ≡ false → wants want_now ≡ true → bus_now.turn.core ≡ true
    serves_holder e w =
        ap (λ (b : Turned). b.turn.core) (bus_closed e)
        ∙ turn_serves s.first.now empty_window want_now arrived_now.gates s.first.work.memory (inside e) (λ _. omega arith) w

    serves_first : wants (want_of s.first.core.debt) ≡ true → (bus_now.turn.core && is_first holder_now) ≡ true
    serves_first w =
        let h : is_first holder_now ≡ true = first_wanting w in
        both_true bus_now.turn.core (is_first holder_now)
        (serves_holder (first_no_gates holder_now h) (ap wants (first_wants holder_now (want_of s.first.core.debt) (want_of s.second.core.debt) h) ∙ w)) h

    serves_second : wants (want_of s.second.core.debt) ≡ true → (bus_now.turn.core && is_second holder_now) ≡ true
    serves_second w =
        let h : is_second holder_now ≡ true = second_wanting w in
        both_true bus_now.turn.core (is_second holder_now)
        (serves_holder (second_no_gates holder_now h) (ap wants (second_wants holder_now (want_of s.first.core.debt) (want_of s.second.core.debt) h) ∙ w)) h

    abbrev pub turned_first : Turned
    turned_first = bus_first holder_now bus_now s

    abbrev pub turned_second : Turned
    turned_second = bus_second holder_now bus_now s

    abbrev pub move_first : CoreMove
    move_first = move_under (is_first holder_now) g.setup turned_first s.first

    abbrev pub move_second : CoreMove
    move_second = move_under (is_second holder_now) k.setup turned_second s.second

    turns_now : Turns g.setup s.first.work.memory bus_now
    turns_now =
        bus_turns g.setup s.first.now (window_given s.first.now s.holder holder_now) want_now arrived_now.gates s.first.work.memory
        (arrivals_gates g.setup s.first.now requests (record { gates = s.first.gates; dropped = s.first.log.dropped }) d.asked gates)

    pub gates_next : AreGates g.setup bus_now.gates
    gates_next = turns_now.gates

    pub first_meets : Meets g.setup g.own turned_first move_first s.first
    first_meets = record {
      leaves = written_keeps g.setup g.own s.first.work bus_now.memory d.placed d.free first.known.position.stands.kept turns_now.memory_is;
      calm = calm_now;
      serves = serves_first;
      may = may_under (is_first holder_now) g.setup turned_first s.first;
    }

    pub second_meets : Meets k.setup k.own turned_second move_second s.second
    second_meets = record {
      leaves = record { view = λ i a lt o. refl; kept = second.known.position.stands.kept };
      calm = refl;
      serves = serves_second;
      may = may_under (is_second holder_now) k.setup turned_second s.second;
    }
