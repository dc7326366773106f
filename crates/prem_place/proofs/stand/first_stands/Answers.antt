use Rattle.prem_place.proofs.StandLemmas.TaskParts.{first_stands}
use Rattle.prem_place.proofs.stand.first_stands.Goals as goal

pub returns : goal.returns
returns c = first_stands
