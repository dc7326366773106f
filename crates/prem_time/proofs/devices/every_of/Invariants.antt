use Rattle.std.proofs.Common.{◌≡◌, drop}
use Rattle.prem_time.specs.Asked.{distances_in}
use Rattle.prem_time.specs.Devices.{every_of}
use Rattle.prem_time.proofs.devices.every_of.Given as goal

abbrev pub invariant-loop-distance : goal.invariant-loop-distance
invariant-loop-distance l = every_of (distances_in (drop l.distance-index l.distances)) l.name ≡ every_of (distances_in l.distances) l.name
