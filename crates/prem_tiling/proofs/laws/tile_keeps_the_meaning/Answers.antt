use Rattle.prem_tiling.proofs.LawsLemmas.Told.{tile_same}
use Rattle.prem_tiling.proofs.laws.tile_keeps_the_meaning.Goals as goal

pub returns : goal.returns
returns c = tile_same
