use Rattle.prem_place.proofs.VerdictLemmas.FactTurns.{at_plan, facts_turn, flags_turn}
use Rattle.prem_place.proofs.verdict.bounds.facts_of.Goals as goal

pub loop-k-preserved : goal.loop-k-preserved
loop-k-preserved c =
    let here = at_plan c.args.p.now c.args.t.now c.items-plans.result.now c.args.lines.now c.loop-k.k c.index-plans-k.result c.index-lines-k.result
    c.requires.lines c.items-plans.ensures c.loop-k-test.true c.index-plans-k.is c.index-lines-k.is in
    record {
      facts = facts_turn c.args.p.now c.args.t.now c.items-plans.result.now c.loop-k.k c.index-plans-k.result c.index-lines-k.result c.args.task
          c.fact-found.result c.loop-k.facts.items _ _ here c.fact-found.ensures.fact c.fact-found.ensures.task c.fact-found.ensures.small
          c.fact-found.ensures.large
          c.in_ok-put_fact.ensures.facts c.loop-k.invariant.facts;
      large = flags_turn c.args.p.now c.args.t.now c.items-plans.result.now c.loop-k.k c.index-plans-k.result c.index-lines-k.result
          c.fact-found.result c.loop-k.large.items _ _ here c.fact-found.ensures.fact c.fact-found.ensures.small c.fact-found.ensures.large
          c.in_ok-put_fact.ensures.large c.loop-k.invariant.large;
    }
