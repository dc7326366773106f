-- For which job of a task the core works in a cycle of a run, and whether the bus is closed then.
use Rattle.std.specs.Prelude.{ℕ, zero, suc, ◌+◌, ◌==◌, ◌&&◌, not, Bool, Option}
use Rattle.prem_sched.specs.Schedule.{task_at}
use Rattle.prem_gate.specs.Gates.{fits}
use Rattle.prem_cycle.specs.State.{MachineState}
use Rattle.prem_cycle.specs.Cycle.{is_over}
use Rattle.prem_resp.specs.Busy.Schedule.{is_task, one_if}
use Rattle.prem_resp.specs.Deadline.Timeline.{serves_in}

-- the task for which the core works in the coming cycle: the one that is chosen, switched to, or in an interval
abbrev pub serves_of : MachineState → Option ℕ
serves_of s = serves_in s.now s.sched s.core.mode

-- how many jobs of a task have ended
abbrev pub ended_of : ℕ → MachineState → ℕ
ended_of k s = (task_at s.sched k).ended

-- the core works for this job
abbrev pub works_for : (task job : ℕ) → MachineState → Bool
works_for k m s = is_task k (serves_of s) && (ended_of k s == m)

-- no transfer of so many cycles may start
abbrev pub is_closed : ℕ → MachineState → Bool
is_closed longest s = not (fits s.now s.core.window longest)

-- of the cycles before this one those in which the core works for a job and the bus is closed
abbrev pub closed_for : (states : ℕ → MachineState) (longest task job cycle : ℕ) → ℕ
closed_for states longest k m zero = 0
closed_for states longest k m (suc n) =
    closed_for states longest k m n + one_if (not (is_over (states n)) && (works_for k m (states n) && is_closed longest (states n)))
