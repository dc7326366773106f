use Rattle.std.proofs.Common.{◌≡◌, ◌+◌, ◌*◌, ◌≤◌, ◌^◌, drop}
use Rattle.prem_latency.specs.Turns.{debts}
use Rattle.prem_latency.proofs.wait.debts.Given as goal

-- what is owed so far and for the rest is what is owed for all, and each task adds a limited part
abbrev pub invariant-loop-task : goal.invariant-loop-task
invariant-loop-task l = record {
  debts : l.cycles + debts (drop l.task-index l.tasks) ≡ debts l.tasks;
  small : l.cycles ≤ l.task-index * 2 ^ 81;
}
