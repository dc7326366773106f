use Rattle.std.specs.List.{AllByRecursion}
use Rattle.std.proofs.Common.{◌≡◌, map, take}
use Rattle.prem_list.specs.Sequence.{items_of}
use Rattle.prem_place.specs.Placed.PlacedOf.{placed_of}
use Rattle.prem_place.specs.Totals.Limits.{IsBound}
use Rattle.prem_compile.specs.Telling.Longest.{longest_in}
use Rattle.prem_compile.proofs.telling.intervals.longest_of_tasks.Given as goal

abbrev pub invariant-loop-task : goal.invariant-loop-task
invariant-loop-task l = record {
  told : items_of l.all ≡ longest_in l.p (map placed_of (take l.task-index l.tasks));
  small : AllByRecursion IsBound (items_of l.all);
}
