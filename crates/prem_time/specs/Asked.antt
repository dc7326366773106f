-- What words ask for, in memory.
use Rattle.std.specs.Prelude.{List, map}
use Rattle.prem_time.specs.declared.words.Distance.{Distance as DistanceIn}
use Rattle.prem_time.specs.declared.words.TimesAsked.{TimesAsked as AskedIn}
use Rattle.prem_time.specs.Words.{Asked, Distance}

abbrev pub distance_of : DistanceIn → Distance
distance_of d = record { device = d.device.now; every = d.every }

abbrev pub distances_in : List DistanceIn → List Distance
distances_in ds = map distance_of ds

abbrev pub asked_in : AskedIn → Asked
asked_in a = record { set = a.set.now; distances = distances_in a.distances.items }
