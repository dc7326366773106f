use Rattle.prem_resp.proofs.TimedLemmas.Images.{joined_images_meet_deadlines}
use Rattle.prem_resp.proofs.timed.joined_images_meet_deadlines.Goals as goal

pub returns : goal.returns
returns c = joined_images_meet_deadlines
