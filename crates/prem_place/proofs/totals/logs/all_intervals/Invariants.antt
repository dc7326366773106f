use Rattle.std.proofs.Common.{◌≡◌, ◌+◌, ◌^◌, ◌≤◌, map, drop}
use Rattle.prem_layout.specs.Counts.{intervals_of}
use Rattle.prem_layout.specs.Rules.{total_of}
use Rattle.prem_bounds.specs.Counts.Count.{clipped}
use Rattle.prem_place.specs.Placed.PlacedOf.{coded_of}
use Rattle.prem_place.proofs.totals.logs.all_intervals.Given as goal

abbrev pub invariant-loop-task : goal.invariant-loop-task
invariant-loop-task l =
    record {
      rest : clipped (l.sum + total_of intervals_of (map coded_of (drop l.task-index l.tasks))) ≡ clipped (total_of intervals_of (map coded_of l.tasks));
      small : l.sum ≤ 2 ^ 32;
    }
