use Rattle.std.proofs.Common.{◌≤◌, ap, ◌∙◌, sym, subst, arith}
use Rattle.prem_pair.specs.Cycles.Pair.{PairState}
use Rattle.prem_pair_top.proofs.Runs.{starts_at, whole_run, stop_is}
use Rattle.prem_pair_top.proofs.run.run_pair.Goals as goal

pub run_to-stop-requires-clause-now : goal.run_to-stop-requires-clause-now
run_to-stop-requires-clause-now g c =
    let x = c.args.given.now in
    let now = ap (λ (s : PairState). s.first.now) c.in_ok-pair.ensures.state ∙ starts_at x.one.now x.two.now x.input.now x.other.now in
    subst (λ n. n ≤ c.args.limit) (sym now) (omega arith)

pub returns-clause-state : goal.returns-clause-state
returns-clause-state g c =
    let x = c.args.given.now in
    whole_run x.one.now x.two.now x.input.now x.other.now c.args.limit c.in_ok-pair.pair c.run_to-stop.new.self.state c.in_ok-pair.ensures.first
    c.in_ok-pair.ensures.second c.in_ok-pair.ensures.requests c.in_ok-pair.ensures.state
    c.run_to-stop.ensures.state

pub returns-clause-stop : goal.returns-clause-stop
returns-clause-stop g c = stop_is c.run_to-stop.result c.args.limit c.run_to-stop.new.self.state c.run_to-stop.ensures.stop
