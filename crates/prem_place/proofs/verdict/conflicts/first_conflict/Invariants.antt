use Rattle.std.proofs.Common.{◌≡◌, map, drop}
use Rattle.prem_layout.specs.Rules.{first_among, over_tasks, conflict_rules}
use Rattle.prem_place.specs.Placed.PlacedOf.{placed_of}
use Rattle.prem_place.proofs.verdict.conflicts.first_conflict.Given as goal

abbrev pub invariant-loop-n : goal.invariant-loop-n
invariant-loop-n l = first_among (conflict_rules l.p) l.n (map placed_of (drop l.n l.tasks)) ≡ over_tasks (conflict_rules l.p) (map placed_of l.tasks)
