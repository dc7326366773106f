use Rattle.std.proofs.Common.{◌≡◌, take}
use Rattle.prem_sched.specs.Schedule.{starts_of}
use Rattle.prem_sched.proofs.sched.Sched.new.Given as goal

-- the tasks so far have started
abbrev pub invariant-loop-period : goal.invariant-loop-period
invariant-loop-period l = l.started.items ≡ starts_of (take l.period-index l.tasks)
