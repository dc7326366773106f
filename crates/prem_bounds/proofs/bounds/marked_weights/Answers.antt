use Rattle.std.proofs.Common.{map, arith}
use Rattle.prem_split.specs.PlanOf.{plan_of}
use Rattle.prem_bounds.proofs.Calls.{none_told}
use Rattle.prem_bounds.proofs.Steps.{marked_step}
use Rattle.prem_bounds.proofs.Told.{plan_item, plans_long}
use Rattle.prem_bounds.proofs.bounds.marked_weights.Goals as goal

pub loop-k-init : goal.loop-k-init
loop-k-init c = none_told 256

pub loop-k-preserved : goal.loop-k-preserved
loop-k-preserved c =
    let plans = c.args.plans.now in
    let k = c.loop-k.k in
    let item = c.index-plans-k.result in
    marked_step c.args.p.now (map plan_of plans) k c.marked_weight.result c.loop-k.weights (plan_of item) (omega (arith, plans_long plans))
    (omega arith) c.loop-k.invariant c.marked_weight.ensures.weight c.marked_weight.ensures.small
    (plan_item plans k item (omega arith) c.index-plans-k.is)
