use Rattle.prem_cycle.proofs.RunsLemmas.InputsLemmas.Runs.{runs_go_on}
use Rattle.prem_cycle.proofs.runs.inputs.runs_go_on.Goals as goal

pub returns : goal.returns
returns c = runs_go_on
