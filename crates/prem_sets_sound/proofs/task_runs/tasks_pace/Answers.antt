use Rattle.prem_sets_sound.proofs.TaskRunsLemmas.Each.{tasks_pace}
use Rattle.prem_sets_sound.proofs.task_runs.tasks_pace.Goals as goal

pub returns : goal.returns
returns c = tasks_pace
