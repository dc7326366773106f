use Rattle.prem_latency.proofs.WcetLemmas.Walk.{jobs_go_by_courses, jobs_go_by_scopes}
use Rattle.prem_latency.proofs.wcet.jobs_go.Goals as goal

pub returns-clause-courses : goal.returns-clause-courses
returns-clause-courses c = jobs_go_by_courses

pub returns-clause-scopes : goal.returns-clause-scopes
returns-clause-scopes c = jobs_go_by_scopes
