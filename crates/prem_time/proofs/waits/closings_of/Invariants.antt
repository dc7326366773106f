use Rattle.std.specs.List.{AllByRecursion}
use Rattle.std.proofs.Common.{◌≡◌, ◌++◌, drop, map}
use Rattle.prem_wcet.specs.TimedOf.{times_in}
use Rattle.prem_time.specs.Devices.{closings_of}
use Rattle.prem_time.specs.Told.{IsClosedAt, closed_told}
use Rattle.prem_time.proofs.waits.closings_of.Given as goal

abbrev pub invariant-loop-k : goal.invariant-loop-k
invariant-loop-k l = record {
  tasks : l.tasks.items ++ closings_of (drop l.k l.loads) (drop l.k l.found) (closed_told (map times_in (drop l.k l.times)) l.i) l.cost
      ≡ closings_of l.loads l.found (closed_told (map times_in l.times) l.i) l.cost;
  rest : AllByRecursion (IsClosedAt l.i) (map times_in (drop l.k l.times));
}
