use Rattle.prem_time.proofs.Fits.{fitting_sets_end_in_time}
use Rattle.prem_time.proofs.laws.fitting_sets_end_in_time.Goals as goal

pub returns : goal.returns
returns c = fitting_sets_end_in_time
