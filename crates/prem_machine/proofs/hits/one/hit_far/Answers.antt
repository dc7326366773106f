use Rattle.prem_machine.proofs.Prelude.{IsNear, IsPlant, subst, sym}
use Rattle.prem_machine.proofs.IssueLemmas.Nearness.{near_none}
use Rattle.prem_machine.proofs.hits.one.hit_far.Goals as goal

pub hit_next-requires-clause-near : goal.hit_next-requires-clause-near
hit_next-requires-clause-near g c =
    let x = c.args.cache.now in
    subst (IsNear x) (sym c.none-near.ensures) (near_none x (subst IsPlant c.plant-plant.ensures.same c.plant-plant.ensures.range))
