use Rattle.std.proofs.Common.{◌≡◌, take}
use Rattle.prem_image.specs.Records.{task_names}
use Rattle.prem_report.proofs.fitting.names.labels_of.Given as goal

abbrev pub invariant-tasks : goal.invariant-tasks
invariant-tasks l = l.labels.items ≡ task_names (take l.task-index l.tasks)
