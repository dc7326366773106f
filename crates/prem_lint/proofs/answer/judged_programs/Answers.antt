use Rattle.prem_tasks.specs.SetOf.{set_of}
use Rattle.prem_tasks.specs.Told.{told_of}
use Rattle.prem_lint.proofs.First.{stops_at_other}
use Rattle.prem_lint.proofs.Texts.{has_program}
use Rattle.prem_lint.proofs.answer.judged_programs.Goals as goal

pub early_answer-requires-clause-program : goal.early_answer-requires-clause-program
early_answer-requires-clause-program c =
    let refusal = c.into_inner-refusal.result in
    has_program (set_of c.args.set.now) c.args.programs.now (told_of refusal.rule) refusal.task _ c.requires c.program_at-program.ensures

pub early_answer-requires-clause-other : goal.early_answer-requires-clause-other
early_answer-requires-clause-other c =
    let stop = c.in-Err-Refused in
    stops_at_other (set_of c.args.set.now) stop.field-0 stop.refusal c.into_inner-refusal.result stop.field-0-is c.into_inner-refusal.ensures stop.ensures.unbounded
