use Rattle.std.specs.List.{AllByRecursion}
use Rattle.std.proofs.Common.{◌≡◌, ◌++◌, ◌≤◌, drop}
use Rattle.prem_layout.specs.Parts.{area_parts}
use Rattle.prem_prefetch.proofs.parts.parts.push_areas.Given as goal

abbrev pub invariant-loop-device : goal.invariant-loop-device
invariant-loop-device l =
    record {
      at : l.n ≡ l.device-index;
      rest : l.parts.items ++ area_parts l.line l.n (drop l.device-index l.devices) ≡ l.initial.parts.items ++ area_parts l.line 0 l.devices;
      short : AllByRecursion (λ d. d.lines ≤ 1024) (drop l.device-index l.devices);
    }
