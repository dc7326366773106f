use Rattle.prem_cycle.proofs.RunsLemmas.DullLemmas.Dull.{dull_rest}
use Rattle.prem_cycle.proofs.RunsLemmas.DullLemmas.Stretch.{one_step, rests_dull}
use Rattle.prem_cycle.proofs.runs.dull.dull_cycles_come_to_one_step.Goals as goal

pub returns-clause-dull : goal.returns-clause-dull
returns-clause-dull c rule p requests n s steady rest = rests_dull rule p requests n s steady rest

pub returns-clause-rest : goal.returns-clause-rest
returns-clause-rest c rule p requests n s steady dull = dull_rest rule p requests n s steady dull

pub returns-clause-step : goal.returns-clause-step
returns-clause-step c rule p requests n s steady rest = one_step rule p requests n s steady rest
