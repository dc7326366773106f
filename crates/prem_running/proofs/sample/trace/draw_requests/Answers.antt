use Rattle.std.proofs.Common.{arith}
use Rattle.prem_list.specs.Sequence.{items_of}
use Rattle.prem_running.specs.Sample.Trace.{requests_from}
use Rattle.prem_running.proofs.SampleLemmas.Numbers.{one_comes, all_came}
use Rattle.prem_running.proofs.sample.trace.draw_requests.Goals as goal

pub requests-preserved : goal.requests-preserved
requests-preserved c = (
  one_comes c.args.count c.requests.counter c.requests.last c.requests.draws.state c.draw_request-request.new.draws.state c.draw_request-request.result
      (items_of c.requests.all) (items_of c.push.new.self) (requests_from c.args.count 0 c.args.draws.now.state) c.requests-test.true c.draw_request-request.ensures.request
      c.draw_request-request.ensures.state c.in_ok-push.ensures.ok c.requests.invariant.0,
  omega (arith, c.draw_request-request.ensures.later, c.requests.invariant.1),
)

pub returns : goal.returns
returns c =
    all_came c.args.count c.requests.counter c.requests.last c.requests.draws.state (items_of c.requests.all) (requests_from c.args.count 0 c.args.draws.now.state)
    (omega (arith, c.requests-test.false)) c.requests.invariant.0
