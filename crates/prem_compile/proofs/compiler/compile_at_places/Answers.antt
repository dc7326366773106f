use Rattle.std.proofs.Common.{List, sym, ◌∙◌, subst}
use Rattle.prem_plant.specs.declared.layout.PartSize.{PartSize}
use Rattle.prem_plant.specs.Places.{Extent, AreApart, ArePlaces}
use Rattle.prem_tasks.specs.Compiled.{parts_in}
use Rattle.prem_tasks.specs.SetOf.{set_of}
use Rattle.prem_compile.specs.Joined.{EndsAt}
use Rattle.prem_compile.proofs.Stopped.{places_apart}
use Rattle.prem_compile.proofs.compiler.compile_at_places.Goals as goal

pub layout_of-requires : goal.layout_of-requires
layout_of-requires c = subst AreApart (sym c.in_ok-places.ensures) (places_apart (set_of c.args.set.now).plant.memory (parts_in (set_of c.args.set.now)) c.args.l.now c.requires.lawful.placed)

pub compile_in_layout-requires-clause-few : goal.compile_in_layout-requires-clause-few
compile_in_layout-requires-clause-few c = c.in_ok-parts.ensures.may.few

pub compile_in_layout-requires-clause-placed : goal.compile_in_layout-requires-clause-placed
compile_in_layout-requires-clause-placed c =
    let set = set_of c.args.set.now in
    subst (λ (places : List Extent). ArePlaces set.plant.memory c.in_ok-parts.parts.items places) (sym (c.layout_of.ensures ∙ c.in_ok-places.ensures))
    (subst (λ (ps : List PartSize). ArePlaces set.plant.memory ps c.args.l.now) (sym c.in_ok-parts.ensures.parts) c.requires.lawful.placed)

pub returns : goal.returns
returns c =
    subst (λ (places : List Extent). EndsAt (set_of c.args.set.now) places c.compile_in_layout.result) (c.layout_of.ensures ∙ c.in_ok-places.ensures) c.compile_in_layout.ensures
