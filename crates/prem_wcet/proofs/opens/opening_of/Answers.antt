use Rattle.std.proofs.Common.{◌*◌, ap, ◌∙◌, length}
use Rattle.prem_bounds.specs.Scale.{clipped}
use Rattle.prem_split.specs.PlanOf.{plan_of}
use Rattle.prem_asm.specs.PiecesOf.{pieces_of}
use Rattle.prem_wcet.proofs.Openings.{opening_told}
use Rattle.prem_wcet.proofs.opens.opening_of.Goals as goal

pub returns : goal.returns
returns c =
    opening_told c.args.p.now c.args.places.now (plan_of c.args.plan.now) (pieces_of c.args.stub.now)
    c.opening_cost-cost.result c.count-count.result c.times-fills.result c.plus.result c.requires.stub c.requires.small c.opening_cost-cost.ensures
    (c.count-count.ensures ∙ ap length c.in_ok-lines.ensures) (c.times-fills.ensures ∙ ap (λ k. clipped (c.count-count.result * k)) c.line_cost.ensures.cost) c.plus.ensures
