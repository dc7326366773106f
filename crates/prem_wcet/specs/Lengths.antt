-- Plans with other lengths, and what has to be known of a placed task so that its times are told.
use Rattle.std.specs.Prelude.{ℕ, ◌≤◌, ◌+◌, ◌^◌, min, List, [], ◌∷◌, map}
use Rattle.std.specs.List.{AllByRecursion}
use Rattle.prem_plant.specs.declared.plant.Plant.{Plant}
use Rattle.prem_layout.specs.Plans.{Plan}
use Rattle.prem_layout.specs.Bounds.{job_bound_of}
use Rattle.prem_bounds.specs.TableOf.{table_of}
use Rattle.prem_place.specs.Placed.PlacedOf.{plans_of}
use Rattle.prem_place.specs.declared.placed.PlacedTask.{PlacedTask}
use Rattle.prem_wcet_laws.specs.Opens.{opens_of}
use Rattle.prem_wcet.specs.KnownOf.{StandsWhole}

-- plans that state these lengths
abbrev pub with_lengths : List ℕ → List Plan → List Plan
with_lengths [] plans = []
with_lengths (n ∷ ns) [] = []
with_lengths (n ∷ ns) (plan ∷ plans) = record plan { stated = n } ∷ with_lengths ns plans

-- stated lengths, none longer than an opening and a transfer of such a cost
abbrev pub lengths_within : (top : ℕ) → (opens stated : List ℕ) → List ℕ
lengths_within top [] stated = []
lengths_within top (n ∷ ns) [] = []
lengths_within top (n ∷ ns) (m ∷ ms) = min m (n + top) ∷ lengths_within top ns ms

abbrev pub stated_in : PlacedTask → List ℕ
stated_in t = map (λ (plan : Plan). plan.stated) (plans_of t)

abbrev pub opens_in : Plant → PlacedTask → List ℕ
opens_in p t = map (opens_of p t.places) (plans_of t)

abbrev pub IsOpening : ℕ → Type 0
IsOpening n = n ≤ 2 ^ 40

-- it stands whole, and neither the bound of its job nor when its intervals open is too large
pub record IsTimedTask (p : Plant) (t : PlacedTask) : Type 0 where
  pub whole : StandsWhole p t
  pub bound : job_bound_of p (plans_of t) (table_of t.table) ≤ 2 ^ 40
  pub opens : AllByRecursion IsOpening (opens_in p t)
