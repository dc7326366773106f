use Rattle.prem_place.proofs.FlatLemmas.BlockLaws.{reach_is_lowest}
use Rattle.prem_place.proofs.flat.laws.reach_is_lowest.Goals as goal

pub returns : goal.returns
returns c = reach_is_lowest
