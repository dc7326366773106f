use Rattle.prem_cycle.proofs.RunsLemmas.InputsLemmas.Histories.{histories_are_runs}
use Rattle.prem_cycle.proofs.runs.inputs.histories_are_runs.Goals as goal

pub returns : goal.returns
returns c = histories_are_runs
