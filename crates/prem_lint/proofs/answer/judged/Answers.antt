use Rattle.prem_tasks.specs.SetOf.{set_of, task_of}
use Rattle.std.proofs.Common.{map}
use Rattle.prem_list.specs.Sequence.{items_of}
use Rattle.prem_lint.specs.Answers.{source_of}
use Rattle.prem_lint.proofs.First.{stops_at_line}
use Rattle.prem_lint.proofs.answer.judged.Goals as goal

pub early_answer-requires-clause-program : goal.early_answer-requires-clause-program
early_answer-requires-clause-program c =
    let stop = c.in-Err-Refused in
    let line = stops_at_line (set_of c.args.set.now) stop.field-0 stop.refusal c.into_inner-refusal.result stop.field-0-is c.into_inner-refusal.ensures stop.ensures.ends in
    line.place (source_of (map task_of (items_of c.args.set.now.tasks)) c.into_inner-refusal.result.task)

pub early_answer-requires-clause-other : goal.early_answer-requires-clause-other
early_answer-requires-clause-other c =
    let stop = c.in-Err-Refused in
    let line = stops_at_line (set_of c.args.set.now) stop.field-0 stop.refusal c.into_inner-refusal.result stop.field-0-is c.into_inner-refusal.ensures stop.ensures.ends in
    line.other
