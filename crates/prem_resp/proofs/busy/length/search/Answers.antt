use Rattle.std.proofs.Common.{◌≤◌, arith}
use Rattle.prem_resp.specs.Busy.Busy.{demand}
use Rattle.prem_resp.proofs.BusyLemmas.Grows.{demand_grows, balanced_above}
use Rattle.prem_resp.proofs.busy.length.search.Goals as goal

-- a busy period would have at least as much to do as the cycles so far
pub returns-then-next-period : goal.returns-then-next-period
returns-then-next-period c = λ other balanced le.
    let more : demand c.args.loads.now c.args.i c.loop-i.cycles ≤ other =
    balanced_above c.args.loads.now c.args.i c.loop-i.cycles other c.requires.loads balanced (c.loop-i.invariant.least other balanced) in
    omega (arith, more, le, c.loop-i.invariant.period, c.demand-next.ensures, c.if-next-period.true)

pub loop-i-preserved : goal.loop-i-preserved
loop-i-preserved c = record {
  period = c.loop-i.invariant.period;
  within = omega (arith, c.if-next-period.false);
  grows = (
      let more : demand c.args.loads.now c.args.i c.loop-i.cycles ≤ demand c.args.loads.now c.args.i c.demand-next.result =
      demand_grows c.args.loads.now c.args.i c.loop-i.cycles c.demand-next.result c.requires.loads (omega (arith, c.loop-i.invariant.grows, c.demand-next.ensures)) in
      omega (arith, more, c.demand-next.ensures));
  least = λ other balanced.
      let more : demand c.args.loads.now c.args.i c.loop-i.cycles ≤ other =
      balanced_above c.args.loads.now c.args.i c.loop-i.cycles other c.requires.loads balanced (c.loop-i.invariant.least other balanced) in
      omega (arith, more, c.demand-next.ensures);
}
