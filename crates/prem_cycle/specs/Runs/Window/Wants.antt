-- An input word that is wanted and isn't there, as the state before the cycle tells it.
use Rattle.std.specs.Prelude.{◌≡◌, ℕ, ◌&&◌, nat_le, Bool, false, List, length, Option, Some, None, if◌then◌else◌}
use Rattle.prem_cycle.specs.Prelude.{Request, ReplacementRule}
use Rattle.prem_cycle.specs.Core.{CoreMove, Passes, Issues, move_of}
use Rattle.prem_cycle.specs.Cycle.{is_over}
use Rattle.prem_cycle.specs.Issue.{Attempt, Traps, Executes, attempt_of}
use Rattle.prem_cycle.specs.Run.{wants_input_of}
use Rattle.prem_cycle.specs.Runs.Window.Windows.{WindowsHold}
use Rattle.prem_cycle.specs.State.{Setup, Task, Work, MachineState, task_in}

-- the attempted instruction of a task takes a word, and none is left
abbrev pub lacks_word : Task → Attempt → Bool
lacks_word t (Traps cause) = false
lacks_word t (Executes instr e) = e.input && nat_le (length t.left) 0

-- the task that issues, if that is so of its next instruction
abbrev pub wants_in : Setup → Work → CoreMove → Option ℕ
wants_in p w (Passes c) = None
wants_in p w (Issues k i) = if lacks_word (task_in w k) (attempt_of p k w) then Some k else None

-- the task whose `pm.in` issues with its words used up, if the bus changes nothing before it
abbrev pub wants_now : Setup → MachineState → Option ℕ
wants_now p s = if is_over s then None else wants_in p s.work (move_of p s.now false s.sched s.work s.core)

-- and it doesn't, whatever the devices ask for
abbrev pub WantsAreSeen : Type 0
WantsAreSeen =
    (rule : ReplacementRule) (p : Setup) (requests : List Request) (s : MachineState) → WindowsHold s →
    wants_input_of rule p requests s ≡ wants_now p s
