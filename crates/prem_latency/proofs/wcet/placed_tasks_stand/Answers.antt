use Rattle.prem_latency.proofs.WcetLemmas.Stands.{placed_tasks_stand, placed_frames_stand}
use Rattle.prem_latency.proofs.wcet.placed_tasks_stand.Goals as goal

pub returns-clause-tasks : goal.returns-clause-tasks
returns-clause-tasks c = placed_tasks_stand

pub returns-clause-frames : goal.returns-clause-frames
returns-clause-frames c = placed_frames_stand
