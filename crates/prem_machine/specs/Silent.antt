-- Cycles in which nothing comes to a task: no `pm.in` issues with its input words used up, and no transfer ends.
use Rattle.std.specs.Prelude.{◌≡◌, ℕ, ◌≤◌, ◌<◌, List, None, length}
use Rattle.prem_machine.specs.Prelude.{cycles_of, wants_input_of, Setup, MachineState, Request, ReplacementRule}

-- the transfers that have ended so far
abbrev pub ended_so_far : MachineState → ℕ
ended_so_far s = length s.log.transfers

-- so many cycles from a state on are such
pub record AreSilent (rule : ReplacementRule) (p : Setup) (requests : List Request) (n : ℕ) (s : MachineState) : Type 0 where
  pub wanted : (m : ℕ) → m < n → wants_input_of rule p requests (cycles_of rule p requests m s) ≡ None
  pub ended : (m : ℕ) → m ≤ n → ended_so_far (cycles_of rule p requests m s) ≡ ended_so_far s
