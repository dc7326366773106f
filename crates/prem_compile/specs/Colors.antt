-- What the laws on places with offsets say of sets.
use Rattle.std.specs.Prelude.{◌≡◌, ◌≤◌, List, None, Ok}
use Rattle.prem_plant.specs.Places.{Extent, last_end}
use Rattle.prem_plant.specs.Ranges.{IsPlant}
use Rattle.prem_layout.specs.Rules.{over_tasks, conflict_rules}
use Rattle.prem_color.specs.Offsets.{moved_places}
use Rattle.prem_tasks.specs.Broken.{TaskSet}
use Rattle.prem_tasks.specs.Compiled.{parts_in}
use Rattle.prem_tasks.specs.At.{AreLawfulFor, broken_early, placed_by}
use Rattle.prem_compile.specs.PartsOf.{ranges_wanted}

-- all parts of a set have places with offsets, and the last one ends within memory
pub record AreColored (set : TaskSet) (places : List Extent) : Type 0 where
  pub plant : IsPlant set.plant
  pub moved : moved_places set.plant (ranges_wanted set) (parts_in set) ≡ Ok places
  pub within : last_end places ≤ set.plant.memory

-- such places are lawful
abbrev pub ColorsAreLawful : Type 0
ColorsAreLawful = (set : TaskSet) (places : List Extent) → AreColored set places → AreLawfulFor set places

-- and there no marked function of a set that breaks no rule up to code generation asks a set of the cache for more lines than it has ways
abbrev pub ColorsLeaveNoConflict : Type 0
ColorsLeaveNoConflict = (set : TaskSet) (places : List Extent) → broken_early set ≡ None → AreColored set places → over_tasks (conflict_rules set.plant) (placed_by set places) ≡ None
