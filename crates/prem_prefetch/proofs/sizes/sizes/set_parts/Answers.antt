use Rattle.std.proofs.Common.{◌≡◌, ◌≤◌, ◌++◌, List, ap, sym, ◌∙◌, subst, arith}
use Rattle.prem_plant.specs.declared.layout.PartSize.{PartSize}
use Rattle.prem_layout.specs.Parts.{area_parts}
use Rattle.prem_prefetch.specs.Sizes.Sizes.{parts_in, MayHavePlaces}
use Rattle.prem_prefetch.proofs.SizesLemmas.PartsOf.{parts_may_have_places, few_lines}
use Rattle.prem_prefetch.proofs.sizes.sizes.set_parts.Goals as goal

pub push_areas-requires-clause-lines : goal.push_areas-requires-clause-lines
push_areas-requires-clause-lines c = few_lines c.args.devices.now c.requires.each

pub returns-clause-may : goal.returns-clause-may
returns-clause-may c =
    let line = c.args.plant.now.line in
    let low = c.requires.plant.line.0 in
    let pos : 1 ≤ line = omega (arith, low) in
    let same : c.push_areas.new.parts.items ≡ parts_in c.args.plant.now c.args.devices.now c.args.tasks.now =
    c.in_ok-push_areas.ensures ∙ ap (λ (ps : List PartSize). ps ++ area_parts line 0 c.args.devices.now) c.in_ok-parts.ensures in
    subst (MayHavePlaces line) (sym same) (parts_may_have_places c.args.plant.now c.args.devices.now c.args.tasks.now pos c.requires.tasks c.requires.count c.requires.devices)
