use Rattle.std.specs.List.{AllByRecursion}
use Rattle.std.proofs.Common.{◌≡◌, ◌++◌, drop, map}
use Rattle.prem_wcet.specs.TimedOf.{times_in}
use Rattle.prem_time.specs.Told.{IsNamed, waits_told}
use Rattle.prem_time.proofs.waits.waits_of.Given as goal

abbrev pub invariant-loop-i : goal.invariant-loop-i
invariant-loop-i l = record {
  waits : l.waits.items ++ waits_told l.bus.askings.items l.loads l.found (map times_in l.times) l.i (drop l.i l.bus.named.items)
      ≡ waits_told l.bus.askings.items l.loads l.found (map times_in l.times) 0 l.bus.named.items;
  rest : AllByRecursion (IsNamed l.bus.askings.items) (drop l.i l.bus.named.items);
}
