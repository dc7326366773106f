use Rattle.std.proofs.Common.{◌≡◌, ◌<◌, length, ap, subst, ◌∙◌, arith}
use Rattle.prem_list.specs.Sequence.{items_of}
use Rattle.prem_wcet.specs.KnownOf.{IsNextFact, faces_in}
use Rattle.prem_wcet.proofs.NextFacts.{all_known, known_more, known_none}
use Rattle.prem_wcet.proofs.facts.known_of.Goals as goal

pub loop-n-init : goal.loop-n-init
loop-n-init c =
    record {
      inside = omega arith;
      faces = c.in_ok-faces.ensures ∙ ap (λ rs. faces_in rs c.args.lengths.now) c.items.ensures;
      known = known_none c.args.p.now c.args.t.now c.args.lengths.now c.requires.task c.requires.count c.new.result.items c.new.ensures.items;
    }

pub loop-n-preserved : goal.loop-n-preserved
loop-n-preserved c =
    let t = c.args.t.now in
    let n = c.loop-n._n in
    let facts = c.loop-n.known.facts.items in
    let lt : n < length (items_of t.table.code) = omega (arith, c.loop-n-test.true, ap length c.items-n-end.ensures) in
    record {
      inside = omega (arith, lt);
      faces = c.in_ok-known.ensures.faces ∙ c.loop-n.invariant.faces;
      known =
          known_more c.args.p.now t c.args.lengths.now c.requires.task c.requires.count n facts c.in_ok-known.known.facts.items c.in_ok-fact.fact
          c.loop-n.known.costs c.in_ok-known.known.costs c.next_cost-cost.result lt c.loop-n.invariant.known
          (subst (λ faces. IsNextFact c.args.p.now t faces facts c.in_ok-fact.fact) c.loop-n.invariant.faces c.in_ok-fact.ensures)
          c.next_cost-cost.ensures c.in_ok-known.ensures.facts c.in_ok-known.ensures.costs;
    }

pub returns-clause-known : goal.returns-clause-known
returns-clause-known c =
    let n_is : c.loop-n._n ≡ length (items_of c.args.t.now.table.code) = omega (arith, c.loop-n.invariant.inside, c.loop-n-test.false, ap length c.items-n-end.ensures) in
    all_known c.args.p.now c.args.t.now c.args.lengths.now c.requires.task c.requires.count c.loop-n._n c.loop-n.known.facts.items c.loop-n.known.costs n_is c.loop-n.invariant.known
