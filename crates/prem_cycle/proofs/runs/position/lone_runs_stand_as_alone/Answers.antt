use Rattle.prem_cycle.proofs.RunsLemmas.PositionLemmas.LoneStands.{lone_stands_as_alone, lone_issues_as_alone}
use Rattle.prem_cycle.proofs.runs.position.lone_runs_stand_as_alone.Goals as goal

pub returns-clause-states : goal.returns-clause-states
returns-clause-states c = lone_stands_as_alone

pub returns-clause-issues : goal.returns-clause-issues
returns-clause-issues c = lone_issues_as_alone
