use Rattle.prem_resp.proofs.DeadlineLemmas.Images.{charged_images_are_sound}
use Rattle.prem_resp.proofs.deadline.laws.charged_images_are_sound.Goals as goal

pub returns : goal.returns
returns c = charged_images_are_sound
