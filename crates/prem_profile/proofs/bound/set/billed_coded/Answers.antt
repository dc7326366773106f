use Rattle.std.proofs.Common.{◌≡◌, List, None, ap, sym, ◌∙◌, subst}
use Rattle.prem_plant.specs.declared.plant.Plant.{Plant}
use Rattle.prem_plant.specs.declared.layout.PartSize.{PartSize}
use Rattle.prem_plant.specs.Places.{ArePlaces, default_places}
use Rattle.prem_layout.specs.Rules.{refused_by, memory_rules}
use Rattle.prem_tasks.specs.SetOf.{set_of}
use Rattle.prem_profile.proofs.BillLemmas.Default.{billed_default}
use Rattle.prem_profile.proofs.bound.set.billed_coded.Goals as goal

pub billed_in_layout-requires-clause-few : goal.billed_in_layout-requires-clause-few
billed_in_layout-requires-clause-few c = c.in_ok-parts.ensures.may.few

pub billed_in_layout-requires-clause-placed : goal.billed_in_layout-requires-clause-placed
billed_in_layout-requires-clause-placed c =
    subst (λ (ps : List PartSize). ArePlaces (set_of c.args.set.now).plant.memory ps c.in_ok-layout.layout) c.deref-2.ensures.value
    (subst (λ (q : Plant). ArePlaces q.memory c.deref-2.result.now c.in_ok-layout.layout) c.plant-plant.ensures.plant c.in_ok-layout.ensures.lawful.placed)

pub returns : goal.returns
returns c =
    let set = set_of c.args.set.now in
    let lent = c.deref-2.ensures.value in
    let none : refused_by None (memory_rules set.plant (default_places c.in_ok-parts.parts.items)) ≡ None =
    ap (λ (ps : List PartSize). refused_by None (memory_rules set.plant (default_places ps))) (sym lent)
    ∙ ap (λ (q : Plant). refused_by None (memory_rules q (default_places c.deref-2.result.now))) (sym c.plant-plant.ensures.plant) ∙ c.in_ok-layout.ensures.ends in
    billed_default set c.args.tasks.items c.in_ok-parts.parts.items c.in_ok-layout.layout c.billed_in_layout.result c.requires
    c.in_ok-parts.ensures.parts (c.in_ok-layout.ensures.places ∙ ap default_places lent) none c.billed_in_layout.ensures
