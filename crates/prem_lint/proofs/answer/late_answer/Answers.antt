use Rattle.prem_tasks.specs.SetOf.{set_of}
use Rattle.prem_tasks.specs.Told.{told_of}
use Rattle.prem_lint.proofs.Texts.{has_program}
use Rattle.prem_lint.proofs.answer.late_answer.Goals as goal

pub put_refusal-requires : goal.put_refusal-requires
put_refusal-requires c =
    let refusal = c.args.refusal.now in
    has_program (set_of c.args.set.now) c.args.programs.now (told_of refusal.rule) refusal.task _ c.requires.programs c.program_at-program.ensures
