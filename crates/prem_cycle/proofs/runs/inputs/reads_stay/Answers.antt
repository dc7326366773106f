use Rattle.prem_cycle.proofs.RunsLemmas.InputsLemmas.Runs.{reads_stay}
use Rattle.prem_cycle.proofs.runs.inputs.reads_stay.Goals as goal

pub returns : goal.returns
returns c = reads_stay
