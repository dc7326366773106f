-- The longest intervals of placed tasks.
use Rattle.std.specs.Prelude.{ℕ, List, map}
use Rattle.prem_plant.specs.declared.plant.Plant.{Plant}
use Rattle.prem_layout.specs.Bounds.{job_bound_of}
use Rattle.prem_layout.specs.Placed.{Placed}
use Rattle.prem_layout.specs.Stretch.Paths.{longest_of}
use Rattle.prem_place.specs.Placed.PlacedOf.{placed_of}
use Rattle.prem_place.specs.Totals.Limits.{IsBound}
use Rattle.prem_place.specs.declared.placed.PlacedTask.{PlacedTask}

-- that of each task, with the switch before it
abbrev pub longest_in : Plant → List Placed → List ℕ
longest_in p placed = map (λ (t : Placed). longest_of p t.plans t.table) placed

-- the bound of a task's job isn't too large
abbrev pub HasBound : Plant → PlacedTask → Type 0
HasBound p t = IsBound (job_bound_of p (placed_of t).plans (placed_of t).table)
