use Rattle.prem_cycle.proofs.RunsLemmas.WindowLemmas.Cycles.{cycle_holds, input_holds, run_holds}
use Rattle.prem_cycle.proofs.runs.window.transfers_lie_inside_windows.Goals as goal

pub returns-clause-runs : goal.returns-clause-runs
returns-clause-runs c = run_holds

pub returns-clause-cycles : goal.returns-clause-cycles
returns-clause-cycles c = cycle_holds

pub returns-clause-inputs : goal.returns-clause-inputs
returns-clause-inputs c = input_holds
