use Rattle.std.proofs.Common.{◌≡◌, map, take}
use Rattle.prem_list.specs.Sequence.{items_of}
use Rattle.prem_place.specs.Placed.PlacedOf.{placed_of, plans_of}
use Rattle.prem_wcet.specs.Times.{interval_text}
use Rattle.prem_wcet.specs.TimedOf.{interval_of}
use Rattle.prem_wcet.proofs.timed.intervals_of.Given as goal

abbrev pub invariant-loop-k : goal.invariant-loop-k
invariant-loop-k l = map interval_of (items_of l.all) ≡ take l.k (map (interval_text l.p (placed_of l.t)) (plans_of l.t))
