use Rattle.prem_machine.proofs.Prelude.{items_of, view_of, with_outputs, arith}
use Rattle.prem_machine.proofs.IssueLemmas.Executed.{with_any_outputs}
use Rattle.prem_machine.proofs.SettledHits.{none_hit}
use Rattle.prem_machine.proofs.hits.settled.go_on.Goals as goal

pub returns-clause-step : goal.returns-clause-step
returns-clause-step g c =
    let x = c.args.cache.now in
    let m = c.args.mem.now in
    let e = c.args.effect in
    let core = c.args.core.now in
    let sum = c.add.ensures in
    record {
      next = record {
        cost = c.args.cost;
        found = 1;
        stored = 0;
        hit = none_hit x m (with_outputs (items_of c.args.outputs.now) core) (with_outputs (items_of c.advance.new.outputs) c.advance.new.self) c.args.task.now e c.args.cost
            (with_any_outputs x.plant.target x.plant.memory (view_of x m) core (items_of c.args.outputs.now) c.args.cost e.access (λ v. e) c.requires.does) c.requires.finds
            c.requires.access c.requires.stored c.requires.stays c.requires.takes_none c.advance.ensures.task;
        time = sum.time;
        hits = sum.hits;
        stores = sum.stores;
      };
      some = omega (arith, sum.time, c.requires.cost.0);
      most = omega (arith, sum.time, c.requires.cost.1);
      found = omega (arith, sum.hits);
      stored = omega (arith, sum.stores);
    }
