use Rattle.prem_time.proofs.Serving.{late_devices_have_cause}
use Rattle.prem_time.proofs.laws.late_devices_have_cause.Goals as goal

pub returns : goal.returns
returns c = late_devices_have_cause
