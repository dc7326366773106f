use Rattle.std.proofs.Common.{◌≡◌, drop}
use Rattle.prem_time.specs.Asked.{distances_in}
use Rattle.prem_time.specs.Devices.{unknown_in}
use Rattle.prem_time.proofs.devices.unknown_in.Given as goal

abbrev pub invariant-loop-distance : goal.invariant-loop-distance
invariant-loop-distance l = unknown_in (distances_in (drop l.distance-index l.distances)) l.devices ≡ unknown_in (distances_in l.distances) l.devices
