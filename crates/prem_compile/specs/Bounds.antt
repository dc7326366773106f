-- What a compiled set tells of the cycles of its tasks, beside the bounds of their jobs.
use Rattle.std.specs.Prelude.{◌≡◌, List}
use Rattle.std.specs.List.{AllByRecursion}
use Rattle.prem_list.specs.Sequence.{items_of}
use Rattle.prem_plant.specs.declared.plant.Plant.{Plant}
use Rattle.prem_layout.specs.Placed.{Placed}
use Rattle.prem_place.specs.Totals.Limits.{IsBound}
use Rattle.prem_compile.specs.Telling.Longest.{longest_in}
use Rattle.prem_compile.specs.declared.compiled.Compiled.{Compiled}

-- the longest interval of each task; neither these nor the bounds of jobs are too large
pub record HasBounds (p : Plant) (placed : List Placed) (c : Compiled) : Type 0 where
  pub longest : items_of c.longest ≡ longest_in p placed
  pub small_longest : AllByRecursion IsBound (items_of c.longest)
  pub small_jobs : AllByRecursion IsBound (items_of c.jobs)
