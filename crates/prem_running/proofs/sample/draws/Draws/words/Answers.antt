use Rattle.std.proofs.Common.{◌∙◌, arith}
use Rattle.prem_list.specs.Sequence.{items_of}
use Rattle.prem_running.specs.Sample.Draws.{after, numbers}
use Rattle.prem_running.proofs.SampleLemmas.Numbers.{one_more, state_further, all_drawn, state_at_end}
use Rattle.prem_running.proofs.sample.draws.Draws.words.Goals as goal

pub draws-preserved : goal.draws-preserved
draws-preserved c =
    let m = c.args.below in
    let count = c.args.count in
    let k = c.draws.counter in
    let x = c.draws.self.state in
    let y = c.draw.new.self.state in (
      one_more m count k x y c.from.result (items_of c.draws.words) (items_of c.push.new.self) (numbers m count c.args.self.now.state) c.draws-test.true c.draw.ensures.state
          (c.from.ensures ∙ c.draw.ensures.number) c.in_ok-push.ensures.ok c.draws.invariant.0,
      state_further count k x y (after count c.args.self.now.state) c.draws-test.true c.draw.ensures.state c.draws.invariant.1,
    )

pub returns-clause-words : goal.returns-clause-words
returns-clause-words c =
    all_drawn c.args.below c.args.count c.draws.counter c.draws.self.state (items_of c.draws.words) (numbers c.args.below c.args.count c.args.self.now.state)
    (omega (arith, c.draws-test.false)) c.draws.invariant.0

pub returns-clause-state : goal.returns-clause-state
returns-clause-state c =
    state_at_end c.args.count c.draws.counter c.draws.self.state (after c.args.count c.args.self.now.state) (omega (arith, c.draws-test.false)) c.draws.invariant.1
