use Rattle.prem_place.proofs.StandLemmas.TaskParts.{others_lie}
use Rattle.prem_place.proofs.stand.others_lie.Goals as goal

pub returns : goal.returns
returns c = others_lie
