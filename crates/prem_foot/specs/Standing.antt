-- Parts of a task at places, and what that says of its plans.
use Rattle.std.specs.Prelude.{◌≡◌, ℕ, ◌+◌, ◌^◌, ◌≤◌, List, length, slice_get, Some}
use Rattle.std.specs.List.{AllByRecursion}
use Rattle.prem_plant.specs.Places.{Extent}
use Rattle.prem_plant.specs.declared.layout.PartSize.{PartSize}
use Rattle.prem_syntax.specs.Syntax.{ProgramText}
use Rattle.prem_syntax.specs.Resolve.{resolve}
use Rattle.prem_syntax.specs.ProgramRules.{IsWellFormed}
use Rattle.prem_layout.specs.Plans.{plans_of}
use Rattle.prem_layout.specs.Parts.{Passes, task_parts}
use Rattle.prem_layout.specs.Placed.{task_places}
use Rattle.prem_foot.specs.PlacesOf.{IsPlanAt}

-- a part has a place of its size, within memory
pub record StandsAt (memory : ℕ) (places : List Extent) (number : ℕ) (part : PartSize) : Type 0 where
  pub at : Extent
  pub there : slice_get places number ≡ Some at
  pub ends : at.1 ≡ at.0 + part.size
  pub within : at.1 ≤ memory

abbrev pub ArePartsAt : ℕ → List PartSize → List Extent → Type 0
ArePartsAt memory parts places = (k : ℕ) (part : PartSize) → slice_get parts k ≡ Some part → StandsAt memory places k part

-- where the parts of a well-formed program stand, its plans may be looked at: their stack ranges lie in the stack, and their regions in globals
abbrev pub PlansStand : Type 0
PlansStand =
    (passes : Passes) (memory task : ℕ) (p : ProgramText) (turns : ℕ → ℕ) (sizes : List ℕ) (places : List Extent) →
    IsWellFormed p → memory ≤ 2 ^ 24 → length sizes ≡ length (resolve turns p).routines → ArePartsAt memory (task_parts passes task sizes (resolve turns p)) places →
    AllByRecursion (IsPlanAt (task_places (resolve turns p) places)) (plans_of (resolve turns p))
