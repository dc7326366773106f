use Rattle.prem_latency.proofs.JoinedTasks.{charged_tasks_wait, paced_tasks_wait}
use Rattle.prem_latency.proofs.laws.charged_tasks_wait.Goals as goal

pub returns-clause-charged : goal.returns-clause-charged
returns-clause-charged c = charged_tasks_wait

pub returns-clause-paced : goal.returns-clause-paced
returns-clause-paced c = paced_tasks_wait
