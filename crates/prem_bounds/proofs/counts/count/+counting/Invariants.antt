use Rattle.std.proofs.Common.{◌≡◌, ◌+◌, ◌≤◌, ◌^◌, drop, slice_index}
use Rattle.prem_tree.specs.Resolve.ResolvedOf.{list_loops}
use Rattle.prem_bounds.specs.Counts.Count.{clipped, most_of_list}
use Rattle.prem_bounds.proofs.counts.count.+counting.Given as goal

-- what is counted, and the rest
abbrev pub invariant-count_in-loop-step : goal.invariant-count_in-loop-step
invariant-count_in-loop-step l =
    record {
      left : clipped (l.count + most_of_list l.output (slice_index l.calls) l.rest (drop l.step-index l.steps)) ≡ clipped (most_of_list l.output (slice_index l.calls) l.turns l.steps);
      small : l.count ≤ 2 ^ 32;
      turns : drop (list_loops (drop l.step-index l.steps)) l.rest ≡ drop (list_loops l.steps) l.turns;
    }
