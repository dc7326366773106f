-- Places of the parts of tasks.
use Rattle.std.specs.Prelude.{List}
use Rattle.prem_plant.specs.declared.plant.Plant.{Plant}
use Rattle.prem_plant.specs.declared.plant.Device.{Device}
use Rattle.prem_plant.specs.Places.{Extent, ArePlaces}
use Rattle.prem_layout.specs.Placed.{Coded, parts_of}

-- places are those of all parts, within memory
pub record AreAtPlaces (p : Plant) (tasks : List Coded) (places : List Extent) : Type 0 where
  pub devices : List Device
  pub placed : ArePlaces p.memory (parts_of p devices tasks) places
