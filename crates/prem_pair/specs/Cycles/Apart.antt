-- Cycles in which two cores don't touch each other. Time is in cycles.
use Rattle.std.specs.Prelude.{◌≡◌, ◌≢◌, ◌&&◌, is_some, Bool, true, false, List, None, All}
use Rattle.prem_pair.specs.Prelude.{want_of, next_cycle, Setup, MachineState, Turned, is_held, wants, New, Request, ReplacementRule}
use Rattle.prem_pair.specs.Cycles.Pair.{PairState, acted, no_arrivals, pair_cycle}
use Rattle.prem_pair.specs.Cycles.Rest.{stays_with, wanted}
use Rattle.prem_pair.specs.Cycles.Token.{holder_after, is_first, is_second}
use Rattle.prem_pair.specs.declared.cycles.state.Holder.TheVariants.{Gates}

-- the bus, where it goes on with what this core has begun or has nothing to do
abbrev pub own_turn : (holds : Bool) → MachineState → Turned
own_turn holds s =
    record {
      gates = s.gates;
      memory = s.work.memory;
      turn = record { core = holds && is_held (want_of s.core.debt); clash = false; ended = None };
    }

-- a core's cycle is then its own: its part of it, and behind what is over with it
abbrev pub own_part : ReplacementRule → Setup → (holds : Bool) → MachineState → MachineState
own_part rule p holds s = acted rule p holds (no_arrivals s) (own_turn holds s) s

abbrev pub own_cycle : ReplacementRule → Setup → (holds : Bool) → MachineState → MachineState
own_cycle rule p holds s = next_cycle (own_part rule p holds s)

-- no request arrives, the token stays where it is and not with the gates, no transaction begins, and at most one core owes one
pub record AreApart (requests : List Request) (s : PairState) : Type 0 where
  pub arrivals : All (λ r. r.cycle ≢ s.first.now) requests
  pub token : stays_with s.holder s ≡ true
  pub gates : s.holder ≢ Gates
  pub free : s.first.gates.carried ≡ None
  pub begins : wanted s ≢ New
  pub one : (wants (want_of s.first.core.debt) && wants (want_of s.second.core.debt)) ≡ false

-- where neither traps or frees the token, each core's cycle is its own
abbrev pub ApartCyclesAreOwn : Type 0
ApartCyclesAreOwn =
    (rule other : ReplacementRule) (p q : Setup) (requests : List Request) (s : PairState) → AreApart requests s →
    is_some (own_part rule p (is_first s.holder) s.first).trapped ≡ false → is_some (own_part other q (is_second s.holder) s.second).trapped ≡ false →
    holder_after s.holder (own_cycle rule p (is_first s.holder) s.first).core (own_cycle other q (is_second s.holder) s.second).core false ≡ s.holder →
    pair_cycle rule other p q requests s
    ≡ record { first = own_cycle rule p (is_first s.holder) s.first; second = own_cycle other q (is_second s.holder) s.second; holder = s.holder }
