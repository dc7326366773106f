use Rattle.std.proofs.Common.{◌≡◌, map, take}
use Rattle.prem_exec.proofs.sources.run.labels_of.Given as goal

abbrev pub invariant-tasks : goal.invariant-tasks
invariant-tasks l = l.labels.items ≡ map (λ t. t.name) (take l.task-index l.tasks)
