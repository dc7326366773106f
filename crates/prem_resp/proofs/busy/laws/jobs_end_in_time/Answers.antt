use Rattle.prem_resp.proofs.BusyLemmas.Enough.{lengths_are_enough}
use Rattle.prem_resp.proofs.BusyLemmas.Periods.{jobs_end_in_time as ended}
use Rattle.prem_resp.proofs.busy.laws.jobs_end_in_time.Goals as goal

pub returns-clause-ended : goal.returns-clause-ended
returns-clause-ended c = ended

pub returns-clause-lengths : goal.returns-clause-lengths
returns-clause-lengths c = lengths_are_enough
