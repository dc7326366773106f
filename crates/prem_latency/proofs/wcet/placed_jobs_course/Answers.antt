use Rattle.prem_latency.proofs.WcetLemmas.JobCourse.{placed_jobs_course, placed_jobs_shut}
use Rattle.prem_latency.proofs.wcet.placed_jobs_course.Goals as goal

pub returns-clause-stated : goal.returns-clause-stated
returns-clause-stated c = placed_jobs_course

pub returns-clause-shut : goal.returns-clause-shut
returns-clause-shut c = placed_jobs_shut
