use Rattle.std.proofs.Common.{◌≡◌, drop}
use Rattle.prem_time.specs.Asked.{distances_in}
use Rattle.prem_time.specs.Words.{is_named}
use Rattle.prem_time.proofs.words.is_named.Given as goal

abbrev pub invariant-loop-distance : goal.invariant-loop-distance
invariant-loop-distance l = is_named l.name (distances_in (drop l.distance-index l.distances)) ≡ is_named l.name (distances_in l.distances)
