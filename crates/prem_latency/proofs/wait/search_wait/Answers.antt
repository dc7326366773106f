use Rattle.std.proofs.Common.{◌≤◌, arith}
use Rattle.prem_latency.specs.Wait.{demand}
use Rattle.prem_latency.specs.Turns.{first_cycles}
use Rattle.prem_latency.proofs.Found.{room_above}
use Rattle.prem_latency.proofs.Shares.{none_is_before}
use Rattle.prem_latency.proofs.Turns.{before_all, begun_next, begun_none, behind_next, ends_found, ends_past, turned_first, turned_next, turned_within}
use Rattle.prem_latency.proofs.wait.search_wait.Goals as goal

pub loop-cycles-init : goal.loop-cycles-init
loop-cycles-init c = record {
  some = c.first_cycles-cycles.ensures.some;
  at = before_all c.args.devices.now c.args.tasks.now c.args.d c.first_cycles-cycles.result c.first_cycles-cycles.ensures.cycles;
  begun = begun_none c.args.devices.now c.args.tasks.now c.args.d c.args.most c.first_cycles-cycles.result;
  least = λ other room.
      let le : first_cycles c.args.devices.now c.args.tasks.now c.args.d ≤ other = none_is_before c.args.devices.now c.args.tasks.now c.args.d other c.requires.devices c.requires.tasks room in
      omega (arith, le, c.first_cycles-cycles.ensures.cycles);
  turned = turned_first c.args.devices.now c.args.tasks.now c.args.d c.requires.devices c.requires.tasks
      (first_cycles c.args.devices.now c.args.tasks.now c.args.d) c.first_cycles-cycles.result c.first_cycles-cycles.ensures.cycles;
  few = omega arith;
  small = omega arith;
}

pub loop-cycles-preserved : goal.loop-cycles-preserved
loop-cycles-preserved c = record {
  some = omega (arith, c.if-next-cycles.false, c.loop-cycles.invariant.some);
  at = behind_next c.args.devices.now c.args.tasks.now c.args.d c.loop-cycles.cycles c.loop-cycles.turns c.demand-next.result c.demand-next.ensures
      c.loop-cycles.invariant.at;
  begun = begun_next c.args.devices.now c.args.tasks.now c.args.d c.args.most c.loop-cycles.cycles c.loop-cycles.turns c.demand-next.result c.loop-cycles.invariant.at
      (omega (arith, c.loop-cycles-test.true)) (omega (arith, c.if-next-cycles.false)) c.loop-cycles.invariant.begun;
  least = λ other room.
      let more : demand c.args.devices.now c.args.tasks.now c.args.d c.loop-cycles.cycles ≤ other =
      room_above c.args.devices.now c.args.tasks.now c.args.d c.requires.devices c.requires.tasks c.loop-cycles.cycles other room (c.loop-cycles.invariant.least other room) in
      omega (arith, more, c.demand-next.ensures);
  turned = turned_next c.args.devices.now c.args.tasks.now c.args.d c.requires.devices c.requires.tasks
      (first_cycles c.args.devices.now c.args.tasks.now c.args.d) c.loop-cycles.cycles c.loop-cycles.turns c.demand-next.result c.demand-next.ensures
      (omega (arith, c.if-next-cycles.false)) c.loop-cycles.invariant.turned;
  few = turned_within c.args.devices.now c.args.tasks.now c.args.d c.requires.devices c.requires.tasks
      (first_cycles c.args.devices.now c.args.tasks.now c.args.d) c.loop-cycles.cycles c.loop-cycles.turns c.args.most
      (omega (arith, c.loop-cycles-test.true, c.from.ensures)) c.loop-cycles.invariant.turned;
  small = omega (arith, c.if-next-cycles.false, c.loop-cycles.invariant.small);
}

pub returns-then-next-cycles-clause-few : goal.returns-then-next-cycles-clause-few
returns-then-next-cycles-clause-few c =
    turned_within c.args.devices.now c.args.tasks.now c.args.d c.requires.devices c.requires.tasks
    (first_cycles c.args.devices.now c.args.tasks.now c.args.d) c.loop-cycles.cycles c.loop-cycles.turns c.loop-cycles.cycles (omega arith)
    c.loop-cycles.invariant.turned

pub returns-then-next-cycles-clause-turns : goal.returns-then-next-cycles-clause-turns
returns-then-next-cycles-clause-turns c =
    ends_found c.args.devices.now c.args.tasks.now c.args.d c.loop-cycles.cycles c.loop-cycles.turns c.args.most c.loop-cycles.invariant.at
    c.loop-cycles.invariant.begun
