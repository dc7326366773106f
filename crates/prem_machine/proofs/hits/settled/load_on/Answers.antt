use Rattle.prem_machine.proofs.Prelude.{items_of, view_of, load_access, load_effect, with_outputs, number_at, Some, ap, ◌∙◌, arith}
use Rattle.prem_machine.proofs.IssueLemmas.Executed.{with_any_outputs}
use Rattle.prem_machine.proofs.SettledHits.{load_found}
use Rattle.prem_machine.proofs.hits.settled.load_on.Goals as goal

pub returns-clause-step : goal.returns-clause-step
returns-clause-step g c = λ done.
    let x = c.args.cache.now in
    let m = c.args.mem.now in
    let l = c.args.load in
    let core = c.args.core.now in
    let found = c.in-Some.ensures in
    let sum = c.add.ensures in
    record {
      next = record {
        cost = c.args.cost;
        found = 2;
        stored = 0;
        hit = load_found x c.hit_load.new.self m (with_outputs (items_of c.args.outputs.now) core) (with_outputs (items_of c.advance.new.outputs) c.advance.new.self) c.args.task.now l
            c.effect_of.result c.in-Some.number c.args.cost
            (with_any_outputs x.plant.target x.plant.memory (view_of x m) core (items_of c.args.outputs.now) c.args.cost (Some (load_access l)) (load_effect l) c.requires.does) c.requires.finds
            found.touched c.effect_of.ensures.effect (found.number ∙ ap (number_at (view_of c.hit_load.new.self m) l.address) c.size.ensures) c.advance.ensures.task;
        time = sum.time;
        hits = sum.hits;
        stores = sum.stores;
      };
      some = omega (arith, sum.time, c.requires.cost.0);
      most = omega (arith, sum.time, c.requires.cost.1);
      found = omega (arith, sum.hits);
      stored = omega (arith, sum.stores);
    }
