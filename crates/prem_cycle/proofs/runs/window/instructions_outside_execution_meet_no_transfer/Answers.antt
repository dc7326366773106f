use Rattle.prem_cycle.proofs.RunsLemmas.WindowLemmas.Cycles.{quiet_outside}
use Rattle.prem_cycle.proofs.runs.window.instructions_outside_execution_meet_no_transfer.Goals as goal

pub returns : goal.returns
returns c = quiet_outside
