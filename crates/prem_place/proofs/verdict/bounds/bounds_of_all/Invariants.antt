use Rattle.std.proofs.Common.{◌≡◌, ◌++◌, map, drop}
use Rattle.prem_layout.specs.Rules.{first_among, over_tasks, bound_rules}
use Rattle.prem_place.specs.Placed.PlacedOf.{placed_of}
use Rattle.prem_place.specs.Verdict.Told.{bounds_of, told_from}
use Rattle.prem_place.proofs.verdict.bounds.bounds_of_all.Given as goal

abbrev pub invariant-loop-n : goal.invariant-loop-n
invariant-loop-n l =
    record {
      rest : first_among (bound_rules l.p) l.n (map placed_of (drop l.n l.tasks)) ≡ over_tasks (bound_rules l.p) (map placed_of l.tasks);
      told : map bounds_of l.all.items ++ told_from l.p l.n (map placed_of (drop l.n l.tasks)) ≡ told_from l.p 0 (map placed_of l.tasks);
    }
