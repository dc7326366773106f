-- A run of two cores as contracts see it.
use Rattle.prem_pair.specs.Prelude.{Setup, MachineState, Request, ℕ, zero, suc, List, Option, Some, None}
use Rattle.prem_pair.specs.Cycles.Pair.{PairState}

-- what the run never changes on each core, the requests of its devices, and its state
pub record PairRunning : Type 0 where
  pub first : Setup
  pub second : Setup
  pub requests : List Request
  pub state : PairState

abbrev pub with_state : PairRunning → PairState → PairRunning
with_state m s = record { first = m.first; second = m.second; requests = m.requests; state = s }

-- the state of a core, if there is one
abbrev pub core_in : ℕ → PairState → Option MachineState
core_in zero s = Some s.first
core_in (suc zero) s = Some s.second
core_in (suc (suc n)) s = None
