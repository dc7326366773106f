-- The places of a task by its text.
use Rattle.std.proofs.Common.{◌≡◌, ◌≤◌, List, length, ap, ◌∙◌}
use Rattle.prem_list.specs.Sequence.{items_of}
use Rattle.prem_plant.specs.Places.{Extent}
use Rattle.prem_syntax.specs.Syntax.{ProgramText}
use Rattle.prem_syntax.specs.ProgramRules.{IsWellFormed}
use Rattle.prem_syntax.specs.Resolved.{Resolved}
use Rattle.prem_syntax.specs.Source.{unlimited}
use Rattle.prem_tree.specs.declared.resolve.resolved.Resolved.{Resolved as ResolvedTree}
use Rattle.prem_tree.specs.Resolve.ResolvedOf.{IsResolved}
use Rattle.prem_layout.specs.Placed.{task_places}
use Rattle.prem_split.proofs.MayHave.{few_functions_there, few_globals_there}
use Rattle.prem_foot.specs.PlacesFrom.{places_in}
use Rattle.prem_foot.specs.Texts.{places_of}
use Rattle.prem_foot.proofs.PlacesAre.{places_are}

pub few : (r : ResolvedTree) (p : ProgramText) → IsResolved r p → IsWellFormed p → (length (items_of r.routines) ≤ 256) × (length r.globals.items ≤ 256)
few r p h well = (few_functions_there r p h well, few_globals_there r p h well)

pub places_are_by_text : (r : ResolvedTree) (p : ProgramText) (places : List Extent) → IsResolved r p → places_in r places ≡ places_of p places
places_are_by_text r p places h = places_are unlimited.turns r places ∙ ap (λ (q : Resolved). task_places q places) (h.same unlimited.turns)
