use Rattle.prem_tiling.proofs.LawsLemmas.Law.{tiles_same}
use Rattle.prem_tiling.proofs.laws.tiles_do_the_same.Goals as goal

pub returns : goal.returns
returns c = tiles_same
