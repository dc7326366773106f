use Rattle.std.specs.List.{AllByRecursion}
use Rattle.std.proofs.Common.{◌≡◌, ◌≤◌, ◌^◌, ◌++◌, map, drop}
use Rattle.prem_list.specs.Sequence.{items_of}
use Rattle.prem_place.specs.Placed.PlacedOf.{placed_of}
use Rattle.prem_wcet.specs.Times.{closed_by}
use Rattle.prem_wcet.proofs.timed.closed_of.Given as goal

abbrev pub invariant-loop-top : goal.invariant-loop-top
invariant-loop-top l = record {
  closed : items_of l.all ++ map (closed_by l.p (placed_of l.t)) (drop l.top-index l.tops) ≡ map (closed_by l.p (placed_of l.t)) l.tops;
  small : AllByRecursion (λ n. n ≤ 2 ^ 40) (items_of l.all);
}
