use Rattle.std.specs.List.{AllByRecursion}
use Rattle.std.specs.Vec.Iter.{into_iter_items}
use Rattle.std.proofs.Common.{◌≡◌, ◌++◌, ◌+◌, ◌*◌, ◌≤◌, map, drop, length}
use Rattle.prem_layout.specs.Placed.{placed_from}
use Rattle.prem_place.specs.Placed.PlacedOf.{placed_of, IsPlacedTask}
use Rattle.prem_prefetch.specs.Sizes.CodedOf.{coded_in, IsCodedTask}
use Rattle.prem_place.specs.Placing.Standing.{TasksLie, stands_in}
use Rattle.prem_place.proofs.placing.place.place_all.Given as goal

abbrev pub invariant-loop-task : goal.invariant-loop-task
invariant-loop-task l =
    record {
      same : map placed_of l.all.items ++ placed_from l.p (drop l.first l.l) (map coded_in (into_iter_items l.task-iterator)) ≡ placed_from l.p l.l (map coded_in l.fn.tasks.items);
      placed : AllByRecursion (IsPlacedTask l.p) l.all.items;
      stands : AllByRecursion stands_in l.all.items;
      coded : AllByRecursion IsCodedTask (into_iter_items l.task-iterator);
      lies : TasksLie l.p (map coded_in (into_iter_items l.task-iterator)) (drop l.first l.l);
      count : l.first + 1024 * length (into_iter_items l.task-iterator) ≤ 16384;
    }
