use Rattle.prem_place.proofs.FlatLemmas.BlockLaws.{blocks_have_words}
use Rattle.prem_place.proofs.flat.laws.blocks_have_words.Goals as goal

pub returns : goal.returns
returns c = blocks_have_words
