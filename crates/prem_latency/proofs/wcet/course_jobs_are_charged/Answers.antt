use Rattle.prem_latency.proofs.WcetLemmas.Jobs.{course_jobs_are_charged}
use Rattle.prem_latency.proofs.wcet.course_jobs_are_charged.Goals as goal

pub returns : goal.returns
returns c = course_jobs_are_charged
