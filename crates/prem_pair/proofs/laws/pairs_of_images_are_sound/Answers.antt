use Rattle.prem_pair.proofs.LawsLemmas.Images.{pairs_of_images}
use Rattle.prem_pair.proofs.laws.pairs_of_images_are_sound.Goals as goal

pub returns : goal.returns
returns c = pairs_of_images
