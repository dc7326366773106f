use Rattle.std.proofs.Common.{◌≡◌, map, drop}
use Rattle.prem_tasks.specs.SetOf.{task_of}
use Rattle.prem_annotate_answer.specs.Written.{text_named}
use Rattle.prem_annotate_answer.proofs.answer.text_named.Given as goal

abbrev pub invariant-loop-task : goal.invariant-loop-task
invariant-loop-task l = text_named l.name (map task_of (drop l.task-index l.tasks)) ≡ text_named l.name (map task_of l.tasks)
