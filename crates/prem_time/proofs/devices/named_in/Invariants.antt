use Rattle.std.proofs.Common.{◌≡◌, ◌++◌, drop}
use Rattle.prem_time.specs.Asked.{distances_in}
use Rattle.prem_time.specs.Devices.{named_from, named_in}
use Rattle.prem_time.proofs.devices.named_in.Given as goal

abbrev pub invariant-loop-number : goal.invariant-loop-number
invariant-loop-number l = l.named.items ++ named_from (distances_in l.distances) l.number (drop l.number l.devices) ≡ named_in (distances_in l.distances) l.devices
