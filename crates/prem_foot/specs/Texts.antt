-- The places of a task by its text.
use Rattle.std.specs.Prelude.{List}
use Rattle.prem_plant.specs.Places.{Extent}
use Rattle.prem_syntax.specs.Syntax.{ProgramText}
use Rattle.prem_syntax.specs.Resolve.{resolve}
use Rattle.prem_syntax.specs.Source.{unlimited}
use Rattle.prem_layout.specs.Footprint.{TaskPlaces}
use Rattle.prem_layout.specs.Placed.{task_places}

-- the turns of loops don't matter
abbrev pub places_of : ProgramText → List Extent → TaskPlaces
places_of p places = task_places (resolve unlimited.turns p) places
