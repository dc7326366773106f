-- The shape of a program in memory is that of the program that it stands for.
use Rattle.std.proofs.Common.{◌≡◌, ℕ, [], ap}
use Rattle.prem_tree.specs.declared.resolve.resolved.Resolved.{Resolved as ResolvedTree}
use Rattle.prem_tree.specs.Resolve.ResolvedOf.{resolved_of}
use Rattle.prem_layout.specs.Footprint.{TaskPlaces}
use Rattle.prem_foot.proofs.PlacesAre.{places_are}
use Rattle.prem_color.specs.Wants.{Shape, shape_of}
use Rattle.prem_color.specs.WantOf.{shape_with}

abbrev shaped : TaskPlaces → Shape
shaped t = record { functions = t.functions; marked = t.marked; elements = t.elements }

pub shape_is : (turns : ℕ → ℕ) (r : ResolvedTree) → shape_with r ≡ shape_of (resolved_of turns r)
shape_is turns r = ap shaped (places_are turns r [])
