use Rattle.std.proofs.Common.{◌≡◌, ◌++◌, map, drop}
use Rattle.prem_place.specs.Placed.PlacedOf.{placed_of}
use Rattle.prem_profile.specs.Bound.Booked.{bills_from}
use Rattle.prem_profile.specs.Bound.Profile.{AreShort, joined}
use Rattle.prem_profile.proofs.bound.set.set_items.Given as goal

-- what is there, and what is left
abbrev pub invariant-tasks : goal.invariant-tasks
invariant-tasks l = record {
  rest : l.bill.items ++ joined (bills_from l.p l.k (map placed_of (drop l.task-index l.tasks))) ≡ joined (bills_from l.p 0 (map placed_of l.tasks));
  place : l.k ≡ l.task-index;
  short : AreShort l.p (map placed_of (drop l.task-index l.tasks)) → AreShort l.p (map placed_of l.tasks);
}
