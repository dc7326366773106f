use Rattle.std.proofs.Common.{◌∙◌, arith}
use Rattle.prem_bounds.proofs.FactsLemmas.Clashes.{clash_step}
use Rattle.prem_bounds.proofs.facts.lines.first_clash.Goals as goal

pub loop-k-preserved : goal.loop-k-preserved
loop-k-preserved c =
    clash_step c.args.p.now c.args.plans.now c.args.lines.now c.loop-k.k c.index-plans-k.result c.index-lines-k.result c.loop-k-test.true
    (omega (arith, c.loop-k-test.true, c.requires.long)) c.index-lines-k.is c.in_default.ensures.conflict
    ∙ c.loop-k.invariant
