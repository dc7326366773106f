use Rattle.std.proofs.Common.{◌≡◌, ◌++◌, map, drop}
use Rattle.prem_list.specs.Sequence.{items_of}
use Rattle.prem_layout.specs.Image.{task_record}
use Rattle.prem_place.specs.Placed.PlacedOf.{placed_of}
use Rattle.prem_place.proofs.build_image.task_records.Given as goal

abbrev pub invariant-loop-n : goal.invariant-loop-n
invariant-loop-n l = items_of l.records ++ map task_record (map placed_of (drop l.n l.tasks)) ≡ map task_record (map placed_of l.tasks)
