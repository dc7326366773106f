use Rattle.prem_cycle.proofs.RunsLemmas.InputsLemmas.Cycles.{cycles_leave_the_word}
use Rattle.prem_cycle.proofs.runs.inputs.cycles_leave_the_word.Goals as goal

pub returns : goal.returns
returns c = cycles_leave_the_word
