use Rattle.prem_place.proofs.StandLemmas.Lying.{places_lie}
use Rattle.prem_place.proofs.stand.places_lie.Goals as goal

pub returns : goal.returns
returns c = places_lie
