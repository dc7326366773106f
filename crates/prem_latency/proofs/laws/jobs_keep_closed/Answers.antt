use Rattle.prem_latency.proofs.AccountRuns.{jobs_keep_closed_by_charges}
use Rattle.prem_latency.proofs.Spans.{idle_time_keeps_closed, intervals_keep_closed}
use Rattle.prem_latency.proofs.laws.jobs_keep_closed.Goals as goal

pub returns-clause-jobs : goal.returns-clause-jobs
returns-clause-jobs c = jobs_keep_closed_by_charges

pub returns-clause-intervals : goal.returns-clause-intervals
returns-clause-intervals c = intervals_keep_closed

pub returns-clause-idle : goal.returns-clause-idle
returns-clause-idle c = idle_time_keeps_closed
