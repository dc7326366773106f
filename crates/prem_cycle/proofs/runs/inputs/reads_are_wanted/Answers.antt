use Rattle.prem_cycle.proofs.RunsLemmas.InputsLemmas.Wants.{reads_are_wanted}
use Rattle.prem_cycle.proofs.runs.inputs.reads_are_wanted.Goals as goal

pub returns : goal.returns
returns c = reads_are_wanted
