use Rattle.prem_tile.proofs.CuttingLemmas.Whole.{tile_read_back}
use Rattle.prem_tile.proofs.cutting.reading.tiles_are_read.Goals as goal

pub returns : goal.returns
returns c = tile_read_back
