-- What placed tasks in memory stand for.
use Rattle.std.specs.Prelude.{◌≡◌, ℕ, ◌<◌, ◌≤◌, List, map, length, slice_index}
use Rattle.std.specs.List.{AllByRecursion}
use Rattle.prem_list.specs.Sequence.{items_of}
use Rattle.prem_plant.specs.declared.plant.Plant.{Plant}
use Rattle.prem_tree.specs.declared.resolve.resolved.Routine.{Routine}
use Rattle.prem_tree.specs.Resolve.ResolvedOf.{resolved_of}
use Rattle.prem_layout.specs.Plans.{Plan}
use Rattle.prem_layout.specs.Footprint.{footprint_of}
use Rattle.prem_layout.specs.Placed.{Coded, Placed, placed_at}
use Rattle.prem_split.specs.PlanOf.{plan_of}
use Rattle.prem_foot.specs.PlacesOf.{IsPlanAt}
use Rattle.prem_bounds.specs.TableOf.{IsTable, listed, table_of}
use Rattle.prem_place.specs.declared.placed.PlacedTask.{PlacedTask}

abbrev pub coded_of : PlacedTask → Coded
coded_of t = record {
  name = t.name.now;
  period = t.period;
  jobs = t.jobs;
  program = resolved_of (slice_index t.turns.items) t.program;
  code = listed (items_of t.table.code);
}

abbrev pub plans_of : PlacedTask → List Plan
plans_of t = map plan_of (items_of t.plans)

-- a task in memory as plain data
abbrev pub placed_of : PlacedTask → Placed
placed_of t = record { task = coded_of t; at = t.places; plans = plans_of t; table = table_of t.table }

abbrev pub routines_of : PlacedTask → List Routine
routines_of t = items_of t.program.routines

-- its plans and its code are those of its program, and its plans may be looked at with its places
pub record IsPlacedTask (p : Plant) (t : PlacedTask) : Type 0 where
  pub same : placed_of t ≡ placed_at p (coded_of t) t.places
  pub table : IsTable t.table
  pub plans : AllByRecursion (IsPlanAt t.places) (plans_of t)
  pub functions : length (routines_of t) ≤ 256
  pub job : t.program.job < length (routines_of t)

-- the lines of its marked functions
abbrev pub lines_of : Plant → PlacedTask → List (List ℕ)
lines_of p t = map (footprint_of p.line t.places) (plans_of t)
