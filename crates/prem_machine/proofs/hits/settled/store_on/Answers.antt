use Rattle.std.proofs.Common.{◌≤◌, ◌/◌, Some, refl, ap, subst, sym, ◌∙◌, arith}
use Rattle.prem_machine.proofs.Prelude.{task_after, Effect, Phase, items_of, CacheState, touch_of, view_of, rule_of, IsHit, stores_in, with_outputs, storing}
use Rattle.prem_isa.specs.declared.effect.AccessKind.TheVariants.{Stores as StoreKind}
use Rattle.prem_machine.proofs.IssueLemmas.Executed.{with_any_outputs}
use Rattle.prem_machine.proofs.SettledHits.{store_found, stores_few}
use Rattle.prem_machine.proofs.hits.settled.store_on.Goals as goal

pub returns-clause-step : goal.returns-clause-step
returns-clause-step g c = λ done.
    let x = c.args.cache.now in
    let m = c.args.mem.now in
    let s = c.args.stored in
    let e = storing s.address s.size s.value c.args.next in
    let core = c.args.core.now in
    let t = with_outputs (items_of c.args.outputs.now) core in
    let t' = with_outputs (items_of c.advance.new.outputs) c.advance.new.self in
    let sum = c.add.ensures in
    let c' = (touch_of (rule_of x.plant.policy) x (s.address / x.plant.line) m).cache in
    let hit = store_found x c' m t t' c.args.task.now (record { kind = StoreKind; address = s.address; size = s.size }) s e c.args.cost c.stores_in.result
    (with_any_outputs x.plant.target x.plant.memory (view_of x m) core (items_of c.args.outputs.now) c.args.cost e.access (λ v. e) c.requires.does) refl refl refl refl
    c.requires.finds (c.hit_store.ensures.touched c.if-not-hit_store.false) (c.advance.ensures.task ∙ ap (λ (y : Effect). task_after c.args.task.now y t) c.storing-effect.ensures)
    (c.stores_in.ensures ∙ ap (λ (p : Phase). stores_in p (Some s)) c.phase-phase.ensures) in
    let few : c.stores_in.result ≤ 1 = subst (λ n. n ≤ 1) (sym c.stores_in.ensures) (stores_few c.phase-phase.result (Some s)) in
    record {
      next = record {
        cost = c.args.cost;
        found = 2;
        stored = c.stores_in.result;
        hit = subst (λ (y : CacheState). IsHit x.plant m t x t' y c.args.cost 2 c.stores_in.result) (sym (c.hit_store.ensures.cache c.if-not-hit_store.false)) hit;
        time = sum.time;
        hits = sum.hits;
        stores = sum.stores;
      };
      some = omega (arith, sum.time, c.requires.cost.0);
      most = omega (arith, sum.time, c.requires.cost.1);
      found = omega (arith, sum.hits);
      stored = omega (arith, sum.stores, few);
    }
