use Rattle.std.proofs.Common.{◌≡◌, ◌++◌, map, drop}
use Rattle.prem_list.specs.Sequence.{items_of}
use Rattle.prem_tasks.specs.SetOf.{task_of}
use Rattle.prem_annotate.specs.Writing.Text.{annotated_text}
use Rattle.prem_annotate_answer.specs.Steps.{noted_tasks, notes_in}
use Rattle.prem_annotate_answer.proofs.noted.noted_tasks.Given as goal

abbrev pub invariant-loop-n : goal.invariant-loop-n
invariant-loop-n l =
    map task_of (items_of l.all) ++ noted_tasks annotated_text (map task_of (drop l.n l.tasks)) (map notes_in (drop l.n l.notes))
    ≡ noted_tasks annotated_text (map task_of l.tasks) (map notes_in l.notes)
