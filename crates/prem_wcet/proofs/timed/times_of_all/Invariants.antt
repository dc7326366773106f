use Rattle.std.specs.List.{AllByRecursion}
use Rattle.std.proofs.Common.{◌≡◌, ◌++◌, map, drop}
use Rattle.prem_list.specs.Sequence.{items_of}
use Rattle.prem_place.specs.Placed.PlacedOf.{placed_of}
use Rattle.prem_wcet.specs.Times.{times_of}
use Rattle.prem_wcet.specs.TimedOf.{AreSmall, times_in}
use Rattle.prem_wcet.proofs.timed.times_of_all.Given as goal

abbrev pub invariant-loop-task : goal.invariant-loop-task
invariant-loop-task l = record {
  times : map times_in (items_of l.all) ++ map (times_of l.p l.tops) (map placed_of (drop l.task-index l.tasks)) ≡ map (times_of l.p l.tops) (map placed_of l.tasks);
  small : AllByRecursion AreSmall (map times_in (items_of l.all));
}
