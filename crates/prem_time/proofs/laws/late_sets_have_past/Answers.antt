use Rattle.prem_time.proofs.Fits.{late_sets_have_past}
use Rattle.prem_time.proofs.laws.late_sets_have_past.Goals as goal

pub returns : goal.returns
returns c = late_sets_have_past
