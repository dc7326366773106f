-- Placed tasks whose parts, with the areas of devices, have places, and their image.
use Rattle.std.specs.Prelude.{◌≡◌, ℕ, ◌+◌, ◌≤◌, All, List, [], ◌∷◌, length, map}
use Rattle.std.specs.List.{AllByRecursion}
use Rattle.prem_list.specs.Sequence.{items_of}
use Rattle.prem_plant.specs.declared.plant.Plant.{Plant}
use Rattle.prem_plant.specs.declared.plant.Device.{Device}
use Rattle.prem_plant.specs.Label.{IsName, AreDistinct}
use Rattle.prem_plant.specs.Places.{Extent, ArePlaces}
use Rattle.prem_plant.specs.Ranges.{Between, IsPlant, IsDevice}
use Rattle.prem_layout.specs.Placed.{parts_of, placed_from}
use Rattle.prem_place.specs.declared.content.content.Block.{Block}
use Rattle.prem_place.specs.Placed.PlacedOf.{coded_of, placed_of, routines_of}
use Rattle.prem_place.specs.declared.placed.PlacedTask.{PlacedTask}
use Rattle.prem_place.specs.Imaging.Standing.{HasBlocks}

-- how many parts a task in memory has
abbrev pub count_of : PlacedTask → ℕ
count_of t = 2 + length (routines_of t) + length (items_of t.plans) + length t.program.globals.items

abbrev pub total_of : List PlacedTask → ℕ
total_of [] = 0
total_of (t ∷ ts) = count_of t + total_of ts

-- each value of a task is in its range, and each of its functions has its code
pub record HasRanges (t : PlacedTask) : Type 0 where
  pub name : IsName t.name.now
  pub period : Between 1 4294967295 t.period
  pub jobs : Between 1 65535 t.jobs
  pub globals : length t.program.globals.items ≤ 65536
  pub code : length (coded_of t).code ≡ length (coded_of t).program.routines

abbrev pub task_names : List PlacedTask → List (List ℕ)
task_names tasks = map (λ (t : PlacedTask). t.name.now) tasks

abbrev pub device_names : List Device → List (List ℕ)
device_names devices = map (λ (d : Device). d.name) devices

-- each task has its blocks
abbrev pub HaveBlocks : List PlacedTask → List (List Block) → Type 0
HaveBlocks [] blocks = Unit {0}
HaveBlocks (t ∷ ts) [] = ⊥
HaveBlocks (t ∷ ts) (bs ∷ bss) = HasBlocks t bs × HaveBlocks ts bss

pub record IsBuilt (p : Plant) (tasks : List PlacedTask) (blocks : List (List Block)) (devices : List Device) (places : List Extent) : Type 0 where
  pub plant : IsPlant p
  pub task_count : Between 1 16 (length tasks)
  pub each_task : AllByRecursion HasRanges tasks
  pub named : AreDistinct (task_names tasks)
  pub device_count : length devices ≤ 8
  pub each_device : All IsDevice devices
  pub devices_named : AreDistinct (device_names devices)
  pub same : map placed_of tasks ≡ placed_from p places (map coded_of tasks)
  pub coded : HaveBlocks tasks blocks
  pub few : length places ≤ 100000
  pub placed : ArePlaces p.memory (parts_of p devices (map coded_of tasks)) places
