-- Tasks whose parts stand at their places.
use Rattle.std.specs.Prelude.{◌≡◌, ◌≤◌, ◌<◌, ◌%◌, ℕ, All, List, [], ◌∷◌, ◌++◌, length, map, slice_index}
use Rattle.prem_plant.specs.declared.plant.Plant.{Plant}
use Rattle.prem_plant.specs.declared.layout.PartSize.{PartSize}
use Rattle.prem_plant.specs.Places.{Extent}
use Rattle.prem_asm.specs.Pieces.{size_of}
use Rattle.prem_layout.specs.Plans.{plans_of}
use Rattle.prem_layout.specs.Parts.{stub_passes, task_parts, parts_from, part_count}
use Rattle.prem_layout.specs.Bounds.{start_code}
use Rattle.prem_layout.specs.Placed.{Coded, Placed, sized_of, job_name, name_at}
use Rattle.prem_place.specs.Flat.Flat.{AreFit}
use Rattle.prem_place.specs.Flat.Blocks.{start_at, parts_in, AllApart, HasParts}
use Rattle.prem_place.specs.Stand.Lying.{Lie, starts_of}
use Rattle.prem_place.specs.Placed.PlacedOf.{placed_of}
use Rattle.prem_place.specs.declared.placed.PlacedTask.{PlacedTask}

-- the parts of a task lie at the places, and others behind them in the list
pub record TaskLies (p : Plant) (c : Coded) (places : List Extent) : Type 0 where
  pub number : ℕ
  pub others : List PartSize
  pub lie : Lie p.memory (task_parts (stub_passes p) number (map size_of c.code) c.program ++ others) places

-- the parts of tasks do, and others behind them
pub record TasksLie (p : Plant) (cs : List Coded) (places : List Extent) : Type 0 where
  pub number : ℕ
  pub others : List PartSize
  pub lie : Lie p.memory (parts_from (stub_passes p) number (map sized_of cs) ++ others) places

-- a placed task whose code has words at the starts of its parts, but for jumps out of reach, and whose `job` is named so
pub record IsStanding (t : Placed) : Type 0 where
  pub fit : AreFit (starts_of t.at) (start_code t.table.job ∷ []) t.table.code t.table.stubs
  pub count : length t.at.places ≡ part_count t.task.program
  pub few : part_count t.task.program ≤ 1024
  pub plans : t.plans ≡ plans_of t.task.program
  pub aligned : All (λ start. start % 4 ≡ 0) (starts_of t.at)
  pub same : slice_index (starts_of t.at) ≡ start_at t.at
  pub parts : HasParts t
  pub apart : AllApart (start_at t.at) 0 (parts_in t)
  pub job : t.table.job < length t.task.program.routines
  pub named : name_at t.task.program.routines t.table.job ≡ job_name

abbrev pub stands_in : PlacedTask → Type 0
stands_in t = IsStanding (placed_of t)
