use Rattle.std.proofs.Common.{◌∙◌, refl, sym, subst}
use Rattle.prem_plant.specs.Places.{AreApart}
use Rattle.prem_plant.proofs.Apartness.{exact, risen_apart}
use Rattle.prem_color.proofs.moving.color.Goals as goal

pub layout_of-requires : goal.layout_of-requires
layout_of-requires c =
    let placed = c.in_ok-places.ensures.placed in
    subst AreApart (sym (c.in_ok-places-2.ensures ∙ c.deref.ensures.value)) ((exact c.in_ok-places.field-0.places.items _ refl).0 (risen_apart 0 c.in_ok-places.field-0.places.items placed.rise))
