use Rattle.std.proofs.Common.{◌≡◌, ◌++◌, drop}
use Rattle.prem_time.specs.Asked.{distances_in}
use Rattle.prem_time.specs.Devices.{askings_in}
use Rattle.prem_time.proofs.devices.askings_in.Given as goal

abbrev pub invariant-loop-device : goal.invariant-loop-device
invariant-loop-device l = l.askings.items ++ askings_in (distances_in l.distances) (drop l.device-index l.devices) ≡ askings_in (distances_in l.distances) l.devices
