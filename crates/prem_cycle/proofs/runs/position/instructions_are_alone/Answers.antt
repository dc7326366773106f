use Rattle.prem_cycle.proofs.RunsLemmas.PositionLemmas.Issues.{instructions_are_alone}
use Rattle.prem_cycle.proofs.runs.position.instructions_are_alone.Goals as goal

pub returns : goal.returns
returns c = instructions_are_alone
