-- Plans whose ranges are there among the parts of a set.
use Rattle.std.specs.Prelude.{ℕ, ◌+◌, ◌*◌, ◌^◌, ◌<◌, ◌≤◌, ⊤, List, [], ◌∷◌, length}
use Rattle.std.specs.List.{AllByRecursion}
use Rattle.prem_plant.specs.declared.layout.PartSize.{PartSize}
use Rattle.prem_layout.specs.Plans.{Region, Plan, plans_of}
use Rattle.prem_layout.specs.Parts.{part_count}
use Rattle.prem_layout.specs.Footprint.{index_of}
use Rattle.prem_layout.specs.Placed.{Coded}
use Rattle.prem_color.specs.Wants.{Shape, shape_of, size_at, element_at, global_number, stack_number}

-- elements of a global that is there, and its part has their bytes
pub record RegionStands (parts : List PartSize) (s : Shape) (first : ℕ) (r : Region) : Type 0 where
  pub there : r.0 < length s.elements
  pub order : r.1 ≤ r.2
  pub small : r.2 < 2 ^ 24
  pub ends : (r.2 + 1) * element_at s r.0 < 2 ^ 32
  pub within : (r.2 + 1) * element_at s r.0 ≤ size_at parts (global_number s first r.0)

-- what a plan names is there: its stub, the functions that it reaches, the regions, and its bytes of the stack
pub record PlanStands (parts : List PartSize) (s : Shape) (first : ℕ) (plan : Plan) : Type 0 where
  pub stub : index_of plan.function s.marked < length s.marked
  pub reach : AllByRecursion (λ f. f < s.functions) plan.reach
  pub regions : AllByRecursion (RegionStands parts s first) plan.regions
  pub stack : plan.base + plan.depth ≤ size_at parts (stack_number s first)

-- so it is of all tasks, the first of which has its start at a number
abbrev pub TasksStand : List PartSize → ℕ → List Coded → Type 0
TasksStand parts first [] = ⊤
TasksStand parts first (c ∷ cs) = AllByRecursion (PlanStands parts (shape_of c.program) first) (plans_of c.program) × TasksStand parts (first + part_count c.program) cs
