use Rattle.std.specs.Prelude.{Ok}
use Rattle.std.proofs.Common.{ap, sym, ◌∙◌}
use Rattle.prem_tasks.specs.SetOf.{set_of}
use Rattle.prem_answer.specs.declared.status.Status.TheVariants.{Done}
use Rattle.prem_profile.specs.Answer.{judged_bound}
use Rattle.prem_profile.proofs.answer.set_bound.Goals as goal

pub returns-in_ok-bound_text-in-Ok-clause-answer : goal.returns-in_ok-bound_text-in-Ok-clause-answer
returns-in_ok-bound_text-in-Ok-clause-answer c =
    let set = set_of c.args.set.now in
    (λ i. Ok (Done, c.in_ok-bound_text-in-Ok.ensures i)) ∙ ap (λ rule. Ok (judged_bound c.args.sources.now set rule)) (sym c.in-Ok.ensures.compiled.lawful)
