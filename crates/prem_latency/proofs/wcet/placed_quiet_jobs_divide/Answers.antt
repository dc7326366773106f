use Rattle.prem_latency.proofs.WcetLemmas.QuietJobs.{placed_quiet_jobs_divide, placed_quiet_starts}
use Rattle.prem_latency.proofs.wcet.placed_quiet_jobs_divide.Goals as goal

pub returns-clause-apart : goal.returns-clause-apart
returns-clause-apart c = placed_quiet_jobs_divide

pub returns-clause-whole : goal.returns-clause-whole
returns-clause-whole c = placed_quiet_starts
