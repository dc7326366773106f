-- What the laws of this crate say.
use Rattle.std.specs.Prelude.{All, List}
use Rattle.std.specs.List.{AllByRecursion}
use Rattle.prem_plant.specs.declared.plant.Plant.{Plant}
use Rattle.prem_plant.specs.declared.plant.Device.{Device}
use Rattle.prem_layout.specs.Placed.{Coded, parts_of}
use Rattle.prem_compile.specs.Telling.There.{HasCode, IsThere}

-- what the parts of a set are named by is there
abbrev pub PartsAreThere : Type 0
PartsAreThere = (p : Plant) (devices : List Device) (tasks : List Coded) → AllByRecursion HasCode tasks → All (IsThere devices tasks) (parts_of p devices tasks)
