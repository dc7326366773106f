use Rattle.std.specs.List.{AllByRecursion}
use Rattle.std.proofs.Common.{◌≡◌, ◌++◌, drop}
use Rattle.prem_time.specs.Told.{IsNamed, tops_of}
use Rattle.prem_time.proofs.devices.tops_of.Given as goal

abbrev pub invariant-loop-device : goal.invariant-loop-device
invariant-loop-device l = record {
  tops : l.tops.items ++ tops_of l.bus.askings.items (drop l.device-index l.bus.named.items) ≡ tops_of l.bus.askings.items l.bus.named.items;
  rest : AllByRecursion (IsNamed l.bus.askings.items) (drop l.device-index l.bus.named.items);
}
