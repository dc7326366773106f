use Rattle.prem_latency.proofs.WcetLemmas.Sets.{meant_tasks_go_by_wcet, meant_tasks_shut_by_wcet, sets_go_by_wcet}
use Rattle.prem_latency.proofs.wcet.sets_go_by_wcet.Goals as goal

pub returns-clause-tasks : goal.returns-clause-tasks
returns-clause-tasks c = meant_tasks_go_by_wcet

pub returns-clause-shut : goal.returns-clause-shut
returns-clause-shut c = meant_tasks_shut_by_wcet

pub returns-clause-sets : goal.returns-clause-sets
returns-clause-sets c = sets_go_by_wcet
