use Rattle.std.proofs.Common.{◌≡◌, List, sym, subst, ◌∙◌}
use Rattle.prem_plant.specs.declared.plant.Plant.{Plant}
use Rattle.prem_plant.specs.Places.{ArePlaces}
use Rattle.prem_plant.specs.declared.layout.PartSize.{PartSize}
use Rattle.prem_tasks.specs.SetOf.{set_of}
use Rattle.prem_compile.specs.Joined.{HasPlaces}
use Rattle.prem_compile.proofs.Stopped.{lent_has_places, tasks_at_places}
use Rattle.prem_profile.proofs.bound.set.billed_in_layout.Goals as goal

pub place_all-requires-clause-places : goal.place_all-requires-clause-places
place_all-requires-clause-places c =
    let same = c.plant-plant.ensures.plant in
    tasks_at_places (set_of c.args.set.now) c.args.tasks.items c.plant-plant.result.now c.args.parts.items c.args.layout same c.requires.code c.requires.parts
    (subst (λ (q : Plant). ArePlaces q.memory c.args.parts.items c.args.layout) (sym same) c.requires.placed)

pub billed_placed-requires-clause-placed : goal.billed_placed-requires-clause-placed
billed_placed-requires-clause-placed c =
    let same = c.plant-plant.ensures.plant in
    let set = set_of c.args.set.now in
    let sizes : c.args.parts.items ≡ c.in_ok-parts.parts.sizes.items = c.requires.parts ∙ sym c.in_ok-parts.ensures.sizes in
    subst (λ (ps : List PartSize). HasPlaces set ps c.args.layout c.deref-2.result.now) sizes
    (lent_has_places set c.args.tasks.items c.plant-plant.result.now c.args.parts.items c.args.layout c.in_ok-placed.placed.items c.deref-2.result.now
    same c.deref-2.ensures.value c.requires.code c.requires.parts c.requires.few (subst (λ (q : Plant). ArePlaces q.memory c.args.parts.items c.args.layout) (sym same) c.requires.placed)
    c.in_ok-placed.ensures.same c.in_ok-placed.ensures.placed c.in_ok-placed.ensures.stands)
