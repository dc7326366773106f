use Rattle.std.proofs.Common.{◌≡◌, map, take}
use Rattle.prem_lint.proofs.answer.source_names.Given as goal

abbrev pub invariant-tasks : goal.invariant-tasks
invariant-tasks l = l.names.items ≡ map (λ t. t.source) (take l.task-index l.tasks)
