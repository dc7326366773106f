use Rattle.prem_resp.proofs.TimedLemmas.Images.{joined_images_go_by_charges}
use Rattle.prem_resp.proofs.timed.joined_images_go_by_charges.Goals as goal

pub returns : goal.returns
returns c = joined_images_go_by_charges
