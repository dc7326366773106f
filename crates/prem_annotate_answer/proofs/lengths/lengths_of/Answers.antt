use Rattle.std.proofs.Common.{map}
use Rattle.prem_place.specs.Verdict.Told.{numbered}
use Rattle.prem_annotate_answer.specs.Steps.{lengths_from}
use Rattle.prem_annotate_answer.proofs.Lengthening.{one_more}
use Rattle.prem_annotate_answer.proofs.lengths.lengths_of.Goals as goal

pub loop-n-preserved : goal.loop-n-preserved
loop-n-preserved c =
    let facts = map numbered c.args.facts.now in
    one_more facts c.loop-n.lengths.items c.push.new.self.items c.loop-n.n c.args.count c.length_in.result (lengths_from facts 0 c.args.count)
    c.loop-n-test.true c.loop-n.invariant c.in_ok-push.ensures.items c.length_in.ensures
