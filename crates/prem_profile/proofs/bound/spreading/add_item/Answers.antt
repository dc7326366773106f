use Rattle.std.proofs.Common.{◌+◌, ◌*◌, ap, ◌∙◌}
use Rattle.prem_bounds.specs.Scale.{clipped}
use Rattle.prem_profile.proofs.BillLemmas.Spreading.{call_often}
use Rattle.prem_profile.proofs.BoundLemmas.Spread.{told_times}
use Rattle.prem_profile.proofs.bound.spreading.add_item.Goals as goal

pub returns-in-Call-clause-told : goal.returns-in-Call-clause-told
returns-in-Call-clause-told c w n is told f lt =
    let k = c.args.item.cost.instructions in
    let m = w f in
    c.add_count.ensures.told w (n * k) (c.product.ensures ∙ ap (λ m. clipped (m * k)) is ∙ told_times n k) told f lt
    ∙ ap (λ m. clipped (w f + m)) (call_often n c.args.item c.in-Call.f c.in-Call.is f)
