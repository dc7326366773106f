-- The machine of two cores: its state, a cycle of it, and its runs. Core 0 has the devices. Time is in cycles.
use Rattle.std.specs.Prelude.{ℕ, zero, suc, ◌==◌, ◌&&◌, ◌||◌, not, Bool, false, List, Option, Some, None, is_some, if◌then◌else◌}
use Rattle.prem_pair.specs.Prelude.{want_of, CoreMove, Passes, CoreTurn, core_turn, Arrivals, arrivals_at, with_memory, with_clash, move_at, joined, with_now, next_cycle, is_finished}
use Rattle.prem_pair.specs.Prelude.{is_full, log_size, memory_of, Setup, MachineState, start_of, GatesState, Turned, wants, bus_turn, Request, ReplacementRule}
use Rattle.prem_cycle.specs.declared.state.Trap.{Trap}
use Rattle.prem_pair.specs.Cycles.Token.{asks, some_wait, holder_with, is_first, is_second, window_given, want_with, is_gates, two_want, holder_after}
use Rattle.prem_pair.specs.declared.cycles.state.Holder.{Holder}
use Rattle.prem_pair.specs.declared.cycles.state.Holder.TheVariants.{Nobody}
use Rattle.prem_pair.specs.declared.cycles.state.PairStop.{PairStop}
use Rattle.prem_pair.specs.declared.cycles.state.PairStop.TheVariants.{Finished, Trap as Trapped, LogFull, Limit}

-- ---- the state

-- each core with its tasks, its cache, its memory, and what it logs; the gates and the clashes stand with core 0
pub record PairState : Type 0 where
  pub first : MachineState
  pub second : MachineState
  pub holder : Holder

-- ---- a core under a token

-- a core that asks for the token and doesn't hold it waits; else it does what it does where it is the only one
abbrev pub move_under : Bool → Setup → Turned → MachineState → CoreMove
move_under holds p b s = if not holds && asks s then Passes s.core else move_at p b s

abbrev pub core_under : ReplacementRule → Setup → Bool → Turned → MachineState → CoreTurn
core_under rule p holds b s =
    core_turn rule p s.now (move_under holds p b s) (with_memory b.memory s.work) s.core (with_clash b.turn.clash s.log.counts)

-- a core behind its part of a cycle, before what is over with it ends
abbrev pub acted : ReplacementRule → Setup → Bool → Arrivals → Turned → MachineState → MachineState
acted rule p holds a b s = joined a b (core_under rule p holds b s) s

-- ---- a cycle

-- who holds the token in this cycle, behind its arrivals
abbrev pub holder_at : GatesState → PairState → Holder
holder_at gates s = holder_with s.holder (asks s.first) (asks s.second) (some_wait gates.gates)

abbrev pub bus_for : Holder → GatesState → PairState → Turned
bus_for h gates s =
    bus_turn s.first.now (window_given s.first.now s.holder h) (want_with h (want_of s.first.core.debt) (want_of s.second.core.debt)) gates s.first.work.memory

abbrev pub clashes : Holder → PairState → Bool
clashes h s = two_want (wants (want_of s.first.core.debt)) (wants (want_of s.second.core.debt)) (is_gates h)

-- what the bus has done for core 0, with whose counts clashes are counted
abbrev pub bus_first : Holder → Turned → PairState → Turned
bus_first h b s = record b { turn = record b.turn { core = b.turn.core && is_first h; clash = clashes h s } }

-- and for core 1, whose memory no transfer writes
abbrev pub bus_second : Holder → Turned → PairState → Turned
bus_second h b s =
    record {
      gates = s.second.gates;
      memory = s.second.work.memory;
      turn = record { core = b.turn.core && is_second h; clash = false; ended = None };
    }

abbrev pub no_arrivals : MachineState → Arrivals
no_arrivals s = record { gates = s.gates; dropped = s.log.dropped }

abbrev pub first_acted : ReplacementRule → Setup → Holder → Arrivals → Turned → PairState → MachineState
first_acted rule p h a b s = acted rule p (is_first h) a (bus_first h b s) s.first

abbrev pub second_acted : ReplacementRule → Setup → Holder → Turned → PairState → MachineState
second_acted rule p h b s = acted rule p (is_second h) (no_arrivals s.second) (bus_second h b s) s.second

-- the cycle of core 1 traps: what core 0 did stands, and now doesn't grow
abbrev pub ended_in_place : MachineState → MachineState
ended_in_place s = with_now (next_cycle s) s.now

-- both have acted, and what is over with this cycle ends
abbrev pub both_ticked : Holder → Turned → MachineState → MachineState → PairState
both_ticked h b first second =
    let f = next_cycle first in
    let g = next_cycle second in
    record { first = f; second = g; holder = holder_after h f.core g.core (is_some b.turn.ended) }

-- core 1 has acted
abbrev pub second_done : Holder → Turned → MachineState → MachineState → PairState
second_done h b first second =
    if is_some second.trapped then record { first = ended_in_place first; second = second; holder = h } else both_ticked h b first second

-- core 0 has acted: where it trapped, core 1 does nothing
abbrev pub first_done : ReplacementRule → Setup → Holder → Turned → MachineState → PairState → PairState
first_done rule q h b first s =
    if is_some first.trapped then record { first = first; second = s.second; holder = h }
    else second_done h b first (second_acted rule q h b s)

abbrev pub pair_cycle_with : (rule other : ReplacementRule) → Setup → Setup → Holder → Arrivals → Turned → PairState → PairState
pair_cycle_with rule other p q h a b s = first_done other q h b (first_acted rule p h a b s) s

-- the arrivals, the token, the bus, and then the cores
abbrev pub pair_cycle : (rule other : ReplacementRule) → Setup → Setup → List Request → PairState → PairState
pair_cycle rule other p q requests s =
    let a = arrivals_at requests s.first in
    let h = holder_at a.gates s in
    pair_cycle_with rule other p q h a (bus_for h a.gates s) s

-- ---- states that stay

abbrev pub both_finished : PairState → Bool
both_finished s = is_finished s.first && is_finished s.second

abbrev pub one_trapped : PairState → Bool
one_trapped s = is_some s.first.trapped || is_some s.second.trapped

abbrev pub one_full : PairState → Bool
one_full s = is_full s.first || is_full s.second

abbrev pub is_pair_over : PairState → Bool
is_pair_over s = both_finished s || one_trapped s || one_full s

abbrev pub pair_step : (rule other : ReplacementRule) → Setup → Setup → List Request → PairState → PairState
pair_step rule other p q requests s = if is_pair_over s then s else pair_cycle rule other p q requests s

-- ---- runs

-- the state after n cycles from a state
unfoldable pub pair_cycles : (rule other : ReplacementRule) → Setup → Setup → List Request → ℕ → PairState → PairState
pair_cycles rule other p q requests zero s = s
pair_cycles rule other p q requests (suc n) s = pair_step rule other p q requests (pair_cycles rule other p q requests n s)

-- both cores start as they do where each is the only one, and the token is free
abbrev pub pair_start : Setup → Setup → (inputs others : List (List ℕ)) (memory behind : List ℕ) → PairState
pair_start p q inputs others memory behind =
    record { first = start_of p inputs memory; second = start_of q others behind; holder = Nobody }

-- the state after n cycles from the start
abbrev pub pair_run : (rule other : ReplacementRule) → Setup → Setup → (content behind : List ℕ) (inputs others : List (List ℕ)) (requests : List Request) → ℕ → PairState
pair_run rule other p q content behind inputs others requests n =
    pair_cycles rule other p q requests n (pair_start p q inputs others (memory_of p content) (memory_of q behind))

-- ---- why a run stops

abbrev pub trap_stop : ℕ → Option Trap → Option PairStop → Option PairStop
trap_stop core (Some t) stop = Some (Trapped core t.task t.pc t.cause)
trap_stop core None stop = stop

abbrev pub full_stop : ℕ → Bool → Option PairStop → Option PairStop
full_stop core full stop = if full then Some (LogFull core log_size) else stop

-- why a run that is to go up to a cycle stops in a state, if it does
abbrev pub pair_stop_of : ℕ → PairState → Option PairStop
pair_stop_of limit s =
    if both_finished s then Some Finished
    else trap_stop 0 s.first.trapped
    (trap_stop 1 s.second.trapped
    (full_stop 0 (is_full s.first)
    (full_stop 1 (is_full s.second) (if s.first.now == limit then Some Limit else None))))
