use Rattle.std.proofs.Common.{◌≡◌, ◌+◌, ◌*◌, ◌≤◌, ◌^◌, drop}
use Rattle.prem_bounds.specs.Scale.{clipped}
use Rattle.prem_wcet_laws.specs.Weights.{weight_from}
use Rattle.prem_wcet.specs.Walks.{weight_by}
use Rattle.prem_wcet.proofs.walk.walk_straight.Given as goal

-- what is summed, and the weight of the rest, which stands behind it
abbrev pub invariant-loop-i : goal.invariant-loop-i
invariant-loop-i l =
    record {
      rest : clipped (l.sum + weight_from (weight_by l.scale) l.end (drop l.i-index l.code)) ≡ clipped (weight_from (weight_by l.scale) l.at l.code);
      small : l.sum ≤ 2 ^ 41;
      place : l.end ≡ l.at + 4 * l.i-index;
    }
