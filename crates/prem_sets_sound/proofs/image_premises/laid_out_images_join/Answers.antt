use Rattle.prem_sets_sound.proofs.ImagePremisesLemmas.Whole.{laid_out_images_join}
use Rattle.prem_sets_sound.proofs.image_premises.laid_out_images_join.Goals as goal

pub returns : goal.returns
returns c = laid_out_images_join
