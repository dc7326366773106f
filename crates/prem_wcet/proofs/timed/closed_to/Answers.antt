use Rattle.prem_wcet.proofs.Told.{closed_is, lengths_bounded, lengths_counted}
use Rattle.prem_wcet.proofs.timed.closed_to.Goals as goal

pub times_in-requires-clause-count : goal.times_in-requires-clause-count
times_in-requires-clause-count c =
    lengths_counted c.args.p.now c.args.t.now c.args.stated.now c.args.opens.now c.args.top c.in_ok-lengths.lengths.items c.deref.result.now
    c.requires.stated c.requires.opens c.in_ok-lengths.ensures c.deref.ensures.value

pub times_in-requires-clause-bound : goal.times_in-requires-clause-bound
times_in-requires-clause-bound c =
    lengths_bounded c.args.p.now c.args.t.now c.args.stated.now c.args.opens.now c.args.top c.in_ok-lengths.lengths.items c.deref.result.now
    c.requires.stated c.requires.opens c.in_ok-lengths.ensures c.deref.ensures.value c.requires.task.bound

pub returns-clause-closed : goal.returns-clause-closed
returns-clause-closed c =
    closed_is c.args.p.now c.args.t.now c.args.stated.now c.args.opens.now c.args.top c.in_ok-lengths.lengths.items c.deref.result.now
    c.requires.stated c.requires.opens c.in_ok-lengths.ensures c.deref.ensures.value
    c.in_ok-times.times.wcet c.in_ok-times.ensures.wcet
