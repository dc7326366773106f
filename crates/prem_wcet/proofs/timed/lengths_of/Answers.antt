use Rattle.std.proofs.Common.{◌∙◌, sym, arith}
use Rattle.std.proofs.lemmas.List.{take_all}
use Rattle.prem_wcet.specs.Lengths.{lengths_within}
use Rattle.prem_wcet.proofs.Shorter.{within_long}
use Rattle.prem_wcet.proofs.Turns.{turn, within_at}
use Rattle.prem_wcet.proofs.timed.lengths_of.Goals as goal

pub loop-k-preserved : goal.loop-k-preserved
loop-k-preserved c =
    let top = c.args.top in
    let opens = c.args.opens.now in
    let stated = c.args.stated.now in
    let long = within_long top opens stated c.requires.count in
    let lt = c.loop-k-test.true in
    turn (lengths_within top opens stated) c.loop-k.lengths.items c.push.new.self.items c.loop-k.k c.length_within-length.result (omega (arith, lt, long)) c.loop-k.invariant c.in_ok-push.ensures.items
    (within_at top opens stated c.loop-k.k c.length_within-length.result lt c.requires.count ∙ sym c.length_within-length.ensures)

pub returns : goal.returns
returns c =
    let long = within_long c.args.top c.args.opens.now c.args.stated.now c.requires.count in
    let end = c.loop-k-test.false in
    c.loop-k.invariant ∙ take_all c.loop-k.k (lengths_within c.args.top c.args.opens.now c.args.stated.now) (omega (arith, end, long))
