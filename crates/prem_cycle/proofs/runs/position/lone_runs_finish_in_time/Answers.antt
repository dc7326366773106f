use Rattle.prem_cycle.proofs.RunsLemmas.PositionLemmas.Finishes.{finishes_in_time, finishes_one_job}
use Rattle.prem_cycle.proofs.runs.position.lone_runs_finish_in_time.Goals as goal

pub returns-clause-due : goal.returns-clause-due
returns-clause-due c = finishes_in_time

pub returns-clause-one_job : goal.returns-clause-one_job
returns-clause-one_job c = finishes_one_job
