use Rattle.prem_sets_sound.proofs.TaskRunsLemmas.Each.{tasks_join}
use Rattle.prem_sets_sound.proofs.task_runs.tasks_join.Goals as goal

pub returns : goal.returns
returns c = tasks_join
