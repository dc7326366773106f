-- Wants in memory.
use Rattle.std.specs.Prelude.{◌≤◌, List, length, map}
use Rattle.prem_list.specs.Sequence.{items_of}
use Rattle.prem_tree.specs.declared.resolve.resolved.Resolved.{Resolved as ResolvedTree}
use Rattle.prem_foot.specs.PlacesFrom.{marked_in, elements_in}
use Rattle.prem_foot.specs.declared.want.Want.{Want as WantInMemory}
use Rattle.prem_color.specs.Offsets.{PartRange}
use Rattle.prem_color.specs.Wants.{Want, Shape}
use Rattle.prem_color.specs.declared.wants.Shape.{Shape as ShapeInMemory}

abbrev pub want_of : WantInMemory → Want
want_of w = record { task = w.task; function = w.function; ranges = items_of w.ranges }

abbrev pub ranges_in : List WantInMemory → List (List PartRange)
ranges_in wants = map (λ w. items_of w.ranges) wants

abbrev pub shape_in : ShapeInMemory → Shape
shape_in s = record { functions = s.functions; marked = s.marked.items; elements = s.elements.items }

-- that of a program in memory
abbrev pub shape_with : ResolvedTree → Shape
shape_with r = record { functions = length (items_of r.routines); marked = marked_in r; elements = elements_in r }

-- as many of each as the language allows
pub record IsSmall (s : ShapeInMemory) : Type 0 where
  pub functions : s.functions ≤ 256
  pub marked : length s.marked.items ≤ 256
  pub elements : length s.elements.items ≤ 256
