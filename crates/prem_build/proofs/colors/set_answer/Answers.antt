use Rattle.std.proofs.Common.{refl}
use Rattle.prem_tasks.specs.At.{broken_early}
use Rattle.prem_tasks.specs.SetOf.{set_of}
use Rattle.prem_answer.specs.Refusal.Texts.{refused_reply}
use Rattle.prem_answer.proofs.Refused.{refused_comes}
use Rattle.prem_build.specs.Colors.{early_reply}
use Rattle.prem_build.proofs.colors.set_answer.Goals as goal

pub returns-in-Err-clause-answer : goal.returns-in-Err-clause-answer
returns-in-Err-clause-answer c =
    let set = set_of c.args.set.now in
    refused_comes (refused_reply set.tasks) (early_reply set) (broken_early set) c.in-Err.fail c.uncompiled.result (λ refusal. refl) c.in-Err.ensures c.uncompiled.ensures.answer
