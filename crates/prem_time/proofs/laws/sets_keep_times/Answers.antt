use Rattle.prem_time.proofs.Fits.{sets_keep_times}
use Rattle.prem_time.proofs.laws.sets_keep_times.Goals as goal

pub returns : goal.returns
returns c = sets_keep_times
