-- A set that isn't compiled is answered by the first rule that it breaks.
use Rattle.std.proofs.Common.{◌≡◌, Option, Some, Result, Ok, ap, ◌∙◌, sym, subst}
use Rattle.prem_layout.specs.Rules.{Refusal}
use Rattle.prem_tasks.specs.Told.{Told, refusal_of}
use Rattle.prem_tasks.specs.declared.fail.CompileFail.{CompileFail}
use Rattle.prem_tasks.specs.declared.fail.CompileFail.TheVariants.{Refused, OutOfMemory}
use Rattle.prem_answer.specs.declared.answer.Answer.{Answer}
use Rattle.prem_answer.specs.declared.answer.Halt.{Halt}
use Rattle.prem_answer.specs.Stages.{Comes, Reply, reply_of}
use Rattle.prem_answer.specs.Refusal.Uncompiled.{IsFirst, Refuses}

-- `judged` is the answer by the first rule that is broken
pub refused_comes : (told : Refusal Told → Reply) (judged : Option (Refusal Told) → Reply) (first : Option (Refusal Told)) (fail : CompileFail) (r : Result Answer Halt) →
    ((refusal : Refusal Told) → judged (Some refusal) ≡ told refusal) → IsFirst first fail → Refuses told fail r → Comes reply_of (λ given. given ≡ Ok (judged first)) r
refused_comes told judged first (Refused refusal) r tells is refuses =
    subst (λ (reply : Reply). Comes reply_of (λ given. given ≡ Ok reply) r) (sym (ap judged is ∙ tells (refusal_of refusal))) refuses
refused_comes told judged first OutOfMemory r tells is refuses = subst (Comes reply_of (λ given. given ≡ Ok (judged first))) (sym refuses) tt
