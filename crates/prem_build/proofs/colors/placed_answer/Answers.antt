use Rattle.std.proofs.Common.{refl}
use Rattle.prem_tasks.specs.At.{broken_at}
use Rattle.prem_tasks.specs.SetOf.{set_of}
use Rattle.prem_answer.specs.Refusal.Texts.{refused_reply}
use Rattle.prem_answer.proofs.Refused.{refused_comes}
use Rattle.prem_build.specs.Colors.{judged_reply}
use Rattle.prem_build.proofs.colors.placed_answer.Goals as goal

pub returns-in-Err-clause-answer : goal.returns-in-Err-clause-answer
returns-in-Err-clause-answer c =
    let set = set_of c.args.set.now in
    let places = c.args.layout.now in
    refused_comes (refused_reply set.tasks) (judged_reply set places) (broken_at set places) c.in-Err.fail c.uncompiled.result (λ refusal. refl) c.in-Err.ensures c.uncompiled.ensures.answer
