use Rattle.std.proofs.Common.{◌≡◌, ◌+◌, ◌*◌, ◌≤◌, ◌^◌, drop}
use Rattle.prem_latency.specs.Turns.{shares_closed}
use Rattle.prem_latency.proofs.wait.shares_closed.Given as goal

-- the shares so far and those of the rest are those of all, and each task adds a limited part
abbrev pub invariant-loop-task : goal.invariant-loop-task
invariant-loop-task l = record {
  shares : l.parts + shares_closed (drop l.task-index l.tasks) ≡ shares_closed l.tasks;
  small : l.parts ≤ l.task-index * 2 ^ 105;
}
