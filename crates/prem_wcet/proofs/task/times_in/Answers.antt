use Rattle.std.proofs.Common.{arith}
use Rattle.prem_wcet.proofs.JobTold.{longest_few, longest_is, wcet_is, wcet_small}
use Rattle.prem_wcet.proofs.task.times_in.Goals as goal

pub returns-clause-wcet : goal.returns-clause-wcet
returns-clause-wcet c =
    wcet_is c.args.p.now c.args.t.now c.args.lengths.now c.requires.whole c.requires.plant c.requires.count c.requires.bound
    c.in_ok-times.ensures.short c.items.result.now c.deref.result.now c.deref-2.result.now c.in_ok-known.known.facts.items
    c.in_ok-known.known.costs c.items.ensures c.deref-2.ensures.value c.in_ok-known.ensures.known c.in_ok-times.times.wcet c.in_ok-times.ensures.wcet

pub returns-clause-longest : goal.returns-clause-longest
returns-clause-longest c =
    longest_is c.args.p.now c.args.t.now c.args.lengths.now c.requires.whole c.requires.plant c.requires.count c.requires.bound
    c.in_ok-times.ensures.short c.items.result.now c.deref.result.now c.deref-2.result.now c.in_ok-known.known.facts.items
    c.in_ok-known.known.costs c.items.ensures c.deref-2.ensures.value c.in_ok-known.ensures.known c.in_ok-times.times.longest c.in_ok-times.ensures.longest

pub returns-clause-small : goal.returns-clause-small
returns-clause-small c =
    let is = returns-clause-wcet c in
    let small = wcet_small c.args.p.now c.args.t.now c.args.lengths.now c.requires.whole c.requires.plant c.requires.count c.requires.bound c.in_ok-times.ensures.short in
    omega (arith, is, small)

pub returns-clause-reach : goal.returns-clause-reach
returns-clause-reach c =
    let is = returns-clause-longest c in
    let small = longest_few c.args.p.now c.args.t.now c.args.lengths.now c.requires.whole c.requires.plant c.requires.count c.requires.bound c.in_ok-times.ensures.short in
    omega (arith, is, small)
