-- How long two cores rest, and what so many cycles of rest come to. Time is in cycles.
use Rattle.std.specs.Prelude.{◌≡◌, ◌≢◌, ℕ, ◌+◌, ◌-◌, ◌≤◌, ◌||◌, not, Bool, true, false, List, Option, Some, None, All, if◌then◌else◌}
use Rattle.prem_pair.specs.Prelude.{want_of, is_finished, NoneArrive, Within, core_passed, core_rest, Setup, CoreState, MachineState, Mode, Point, Switching, Running, Idle, GatesState}
use Rattle.prem_pair.specs.Prelude.{wants, CoreWant, Request, ReplacementRule}
use Rattle.prem_gate.specs.Stretch.{AreQuiet, BusRun, bus_run}
use Rattle.prem_pair.specs.Cycles.Pair.{PairState, clashes, is_pair_over, pair_cycles}
use Rattle.prem_pair.specs.Cycles.Token.{asks, empty_window, frees, is_first, is_second, some_wait, want_with}
use Rattle.prem_pair.specs.declared.cycles.state.Holder.{Holder}
use Rattle.prem_pair.specs.declared.cycles.state.Holder.TheVariants.{Nobody, First, Second, Gates}

-- ---- a core that holds the token or doesn't

-- without the token a core that owes a transaction waits for it, but idle time ends, and at a scheduling point it may come to ask
abbrev pub waiting_rest : ℕ → Mode → Option ℕ
waiting_rest now Point = Some 0
waiting_rest now (Switching k left) = None
waiting_rest now (Running k) = None
waiting_rest now (Idle until) = Some (until - (now + 1))

-- how many cycles it rests, if it does so by itself: one that asks waits for the token, and one that has finished does no more
abbrev pub rest_with : (holds : Bool) → MachineState → Option ℕ
rest_with true s = core_rest s.now s.core
rest_with false s =
    if asks s || is_finished s then None
    else if wants (want_of s.core.debt) then waiting_rest s.now s.core.mode
    else core_rest s.now s.core

-- what so many of them come to
abbrev pub core_passed_with : (holds : Bool) → ℕ → CoreState → CoreState
core_passed_with true n c = core_passed n c
core_passed_with false n c = if wants (want_of c.debt) then c else core_passed n c

abbrev pub side_passed : (holds : Bool) → ℕ → MachineState → MachineState
side_passed holds n s = record s { now = s.now + n; core = core_passed_with holds n s.core }

-- ---- the token and the bus

-- the token stays where it is: free where nobody asks and no request waits, with a core that doesn't free it, or with the gates
abbrev pub stays_with : Holder → PairState → Bool
stays_with Nobody s = not (asks s.first || asks s.second || some_wait s.first.gates.gates)
stays_with First s = not (frees s.first.core)
stays_with Second s = not (frees s.second.core)
stays_with Gates s = true

-- what its holder wants of the bus
abbrev pub wanted : PairState → CoreWant
wanted s = want_with s.holder (want_of s.first.core.debt) (want_of s.second.core.debt)

-- so many cycles of the bus, in which the gates get no token
abbrev pub turns_passed : ℕ → PairState → BusRun
turns_passed n s = bus_run n s.first.now empty_window (wanted s) s.first.gates s.first.work.memory

abbrev pub with_turns : GatesState → (clashes : ℕ) → MachineState → MachineState
with_turns gates clashes s =
    record s {
      gates = gates;
      log = record s.log { counts = record s.log.counts { clashes = s.log.counts.clashes + clashes } };
    }

-- ---- both

-- so many cycles from the state on do nothing but count
pub record PairRests (n : ℕ) (requests : List Request) (s : PairState) : Type 0 where
  pub arrivals : NoneArrive n s.first.now requests
  pub token : stays_with s.holder s ≡ true
  pub gates : AreQuiet n s.first.now empty_window (wanted s) s.first.gates
  pub first : Within n (rest_with (is_first s.holder) s.first)
  pub second : Within n (rest_with (is_second s.holder) s.second)

-- what they come to: each is a clash where two want the bus
abbrev pub pair_passed : ℕ → PairState → PairState
pair_passed n s =
    record {
      first =
          with_turns (turns_passed n s).gates (if clashes s.holder s then n else 0) (side_passed (is_first s.holder) n s.first);
      second = side_passed (is_second s.holder) n s.second;
      holder = s.holder;
    }

-- the run goes on, nothing is carried but while the gates hold the token, and tasks have some period
pub record IsSteadyPair (s : PairState) : Type 0 where
  pub going : is_pair_over s ≡ false
  pub same_now : s.second.now ≡ s.first.now
  pub free : s.holder ≢ Gates → s.first.gates.carried ≡ None
  pub periods : All (λ j. 1 ≤ j.period) s.first.sched
  pub other_periods : All (λ j. 1 ≤ j.period) s.second.sched

-- so many cycles that rest come to one step
abbrev pub PairRestsComeToOneStep : Type 0
PairRestsComeToOneStep =
    (rule other : ReplacementRule) (p q : Setup) (requests : List Request) (n : ℕ) (s : PairState) → IsSteadyPair s → PairRests n requests s →
    pair_cycles rule other p q requests n s ≡ pair_passed n s
