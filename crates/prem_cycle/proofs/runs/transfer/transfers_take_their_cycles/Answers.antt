use Rattle.prem_cycle.proofs.RunsLemmas.TransferLemmas.Cycles.{runs_are_on_their_way, runs_take_their_cycles}
use Rattle.prem_cycle.proofs.runs.transfer.transfers_take_their_cycles.Goals as goal

pub returns-clause-ended : goal.returns-clause-ended
returns-clause-ended c = runs_take_their_cycles

pub returns-clause-carried : goal.returns-clause-carried
returns-clause-carried c = runs_are_on_their_way
