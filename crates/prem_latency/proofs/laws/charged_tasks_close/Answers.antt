use Rattle.prem_latency.proofs.Closes.{charged_tasks_close, scripts_open, shorter_calls_close}
use Rattle.prem_latency.proofs.laws.charged_tasks_close.Goals as goal

pub returns-clause-opened : goal.returns-clause-opened
returns-clause-opened c = scripts_open

pub returns-clause-shorter : goal.returns-clause-shorter
returns-clause-shorter c = shorter_calls_close

pub returns-clause-charged : goal.returns-clause-charged
returns-clause-charged c = charged_tasks_close
