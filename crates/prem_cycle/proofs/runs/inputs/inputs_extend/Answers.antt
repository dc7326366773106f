use Rattle.prem_cycle.proofs.RunsLemmas.InputsLemmas.Fits.{lists_stay_fit}
use Rattle.prem_cycle.proofs.RunsLemmas.InputsLemmas.Runs.{inputs_extend}
use Rattle.prem_cycle.proofs.runs.inputs.inputs_extend.Goals as goal

pub returns-clause-state : goal.returns-clause-state
returns-clause-state c = inputs_extend

pub returns-clause-fits : goal.returns-clause-fits
returns-clause-fits c = lists_stay_fit
