use Rattle.std.proofs.Common.{◌≡◌, ◌++◌, map, drop}
use Rattle.prem_place.specs.Placed.PlacedOf.{lines_of}
use Rattle.prem_place.proofs.verdict.conflicts.footprints_of_all.Given as goal

abbrev pub invariant-loop-task : goal.invariant-loop-task
invariant-loop-task l = map (λ lines. lines.items) l.all.items ++ map (lines_of l.p) (drop l.task-index l.tasks) ≡ map (lines_of l.p) l.tasks
