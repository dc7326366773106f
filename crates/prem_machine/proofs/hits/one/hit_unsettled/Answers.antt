use Rattle.std.proofs.Common.{arith}
use Rattle.prem_machine.proofs.hits.one.hit_unsettled.Goals as goal

pub returns-clause-step : goal.returns-clause-step
returns-clause-step g c = λ done.
    let hit = c.in-Some.hit in
    let e = c.in-Some.ensures in
    let sum = c.add.ensures in
    record {
      next = record { cost = hit.cost; found = hit.hits; stored = hit.stores; hit = e.hit; time = sum.time; hits = sum.hits; stores = sum.stores };
      some = omega (arith, sum.time, e.cost.0);
      most = omega (arith, sum.time, e.cost.1.0);
      found = omega (arith, sum.hits, e.cost.1.1.0);
      stored = omega (arith, sum.stores, e.cost.1.1.1);
    }
