use Rattle.prem_cycle.proofs.RunsLemmas.DullLemmas.Alone.{issues_alone}
use Rattle.prem_cycle.proofs.runs.dull.instructions_issue_alone.Goals as goal

pub returns : goal.returns
returns c = issues_alone
