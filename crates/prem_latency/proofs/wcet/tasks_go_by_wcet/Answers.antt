use Rattle.prem_latency.proofs.WcetLemmas.Tasks.{tasks_go_by_wcet, tasks_shut_by_wcet}
use Rattle.prem_latency.proofs.wcet.tasks_go_by_wcet.Goals as goal

pub returns-clause-stated : goal.returns-clause-stated
returns-clause-stated c = tasks_go_by_wcet

pub returns-clause-shut : goal.returns-clause-shut
returns-clause-shut c = tasks_shut_by_wcet
