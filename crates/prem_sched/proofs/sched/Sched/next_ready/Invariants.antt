use Rattle.std.proofs.Common.{◌≡◌, drop}
use Rattle.prem_sched.specs.Schedule.{earlier, next_ready}
use Rattle.prem_sched.proofs.sched.Sched.next_ready.Given as goal

-- the least so far and that of the tasks that are left
abbrev pub invariant-tasks : goal.invariant-tasks
invariant-tasks l = earlier l.least (next_ready l.now (drop l.task-index l.task-items)) ≡ next_ready l.now l.task-items
