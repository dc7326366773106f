use Rattle.std.proofs.Common.{sym, subst}
use Rattle.prem_plant.specs.declared.plant.Plant.{Plant}
use Rattle.prem_plant.specs.Places.{ArePlaces}
use Rattle.prem_tasks.specs.SetOf.{set_of}
use Rattle.prem_compile.proofs.Stopped.{lent_has_places, tasks_at_places}
use Rattle.prem_compile.proofs.bounding.judged_in_layout.Goals as goal

pub place_all-requires-clause-places : goal.place_all-requires-clause-places
place_all-requires-clause-places c =
    let same = c.plant-plant.ensures.plant in
    tasks_at_places (set_of c.args.set.now) c.args.tasks.items c.plant-plant.result.now c.args.parts.now c.args.layout same c.requires.code c.requires.parts
    (subst (λ (q : Plant). ArePlaces q.memory c.args.parts.now c.args.layout) (sym same) c.requires.placed)

pub judged_at_places-requires : goal.judged_at_places-requires
judged_at_places-requires c =
    let same = c.plant-plant.ensures.plant in
    lent_has_places (set_of c.args.set.now) c.args.tasks.items c.plant-plant.result.now c.args.parts.now c.args.layout c.in_ok-placed.placed.items c.deref.result.now
    same c.deref.ensures.value c.requires.code c.requires.parts c.requires.few (subst (λ (q : Plant). ArePlaces q.memory c.args.parts.now c.args.layout) (sym same) c.requires.placed)
    c.in_ok-placed.ensures.same c.in_ok-placed.ensures.placed c.in_ok-placed.ensures.stands
