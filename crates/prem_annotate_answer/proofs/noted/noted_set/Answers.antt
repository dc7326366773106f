use Rattle.std.proofs.Common.{◌≡◌, ◌∙◌, ap, sym, map, length}
use Rattle.std.proofs.lemmas.List.{length-map}
use Rattle.prem_list.specs.Sequence.{items_of}
use Rattle.prem_tasks.specs.SetOf.{task_of}
use Rattle.prem_annotate.specs.Writing.Text.{annotated_text}
use Rattle.prem_annotate_answer.specs.Steps.{notes_in}
use Rattle.prem_annotate_answer.proofs.Lawful.{tasks_kept}
use Rattle.prem_annotate_answer.proofs.noted.noted_set.Goals as goal

pub set_with-requires : goal.set_with-requires
set_with-requires c =
    let old = c.tasks.result.now in
    let count : length (map notes_in c.args.notes.now) ≡ length old = length-map c.args.notes.now notes_in ∙ c.requires.noted ∙ sym (ap length c.tasks.ensures.tasks) ∙ length-map old task_of in
    tasks_kept annotated_text (map notes_in c.args.notes.now) (items_of c.in_ok-tasks.tasks) old c.in_ok-tasks.ensures count c.tasks.ensures.ranges
