use Rattle.prem_cycle.proofs.RunsLemmas.PositionLemmas.Positions.{tasks_stand_as_alone}
use Rattle.prem_cycle.proofs.runs.position.tasks_stand_as_alone.Goals as goal

pub returns : goal.returns
returns c = tasks_stand_as_alone
