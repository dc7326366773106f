use Rattle.prem_sets_sound.proofs.TaskRunsLemmas.Each.{tasks_tell}
use Rattle.prem_sets_sound.proofs.task_runs.tasks_tell.Goals as goal

pub returns : goal.returns
returns c = tasks_tell
