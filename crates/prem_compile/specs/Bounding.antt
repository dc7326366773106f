-- The bounds of a set's marked functions and jobs, before it is asked whether the stated lengths reach them.
use Rattle.std.specs.Prelude.{◌≡◌, Vec, List, map, Option, None, Result, MatchResult}
use Rattle.std.specs.Global.{Global}
use Rattle.prem_plant.specs.declared.plant.Plant.{Plant}
use Rattle.prem_plant.specs.Places.{Extent}
use Rattle.prem_layout.specs.Placed.{Placed}
use Rattle.prem_layout.specs.Rules.{LateRule, Refusal, or_else, refused_by, over_tasks, memory_rules, reach_rules, conflict_rules, bound_rules}
use Rattle.prem_place.specs.declared.verdict.told.TaskBounds.{TaskBounds}
use Rattle.prem_place.specs.Verdict.Told.{BoundsTold, bounds_of, told_from}
use Rattle.prem_tasks.specs.Broken.{TaskSet, late_refusal}
use Rattle.prem_tasks.specs.Compiled.{places_in, placed_in}
use Rattle.prem_tasks.specs.At.{broken_early, placed_by}
use Rattle.prem_tasks.specs.Told.{Told}
use Rattle.prem_tasks.specs.Stops.{Stop, Stops}

-- ---- the rules up to bounds

abbrev pub broken_up_to_bounds : Plant → List Placed → Option (Refusal LateRule)
broken_up_to_bounds p placed = or_else (over_tasks (conflict_rules p) placed) (over_tasks (bound_rules p) placed)

abbrev pub unbounded_at : TaskSet → List Extent → Option (Refusal Told)
unbounded_at set places = late_refusal (or_else (over_tasks reach_rules (placed_by set places)) (broken_up_to_bounds set.plant (placed_by set places)))

-- those of a set at the default places
abbrev pub unbounded : TaskSet → Option (Refusal Told)
unbounded set = or_else (broken_early set) (or_else (late_refusal (refused_by None (memory_rules set.plant (places_in set)))) (unbounded_at set (places_in set)))

-- ---- the bounds

-- of the marked functions of each task, and of its jobs
abbrev pub bounds_told : TaskSet → List BoundsTold
bounds_told set = told_from set.plant 0 (placed_in set)

pub record AreBoundsAt (set : TaskSet) (places : List Extent) (all : List TaskBounds) : Type 0 where
  pub lawful : unbounded_at set places ≡ None
  pub told : map bounds_of all ≡ told_from set.plant 0 (placed_by set places)

-- of a set that breaks none of these rules
pub record AreBounds (set : TaskSet) (all : List TaskBounds) : Type 0 where
  pub lawful : unbounded set ≡ None
  pub told : map bounds_of all ≡ bounds_told set

abbrev pub EndsBounds : TaskSet → Result (Vec TaskBounds Global) Stop → Type 0
EndsBounds set result = MatchResult result (λ all. AreBounds set all.items) (λ stop. Stops stop (unbounded set))
