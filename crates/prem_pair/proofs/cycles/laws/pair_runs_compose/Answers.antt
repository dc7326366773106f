use Rattle.prem_pair.proofs.CyclesLemmas.PairRuns.{pair_cycles-add, pair_cycles-over}
use Rattle.prem_pair.proofs.cycles.laws.pair_runs_compose.Goals as goal

pub returns-clause-state : goal.returns-clause-state
returns-clause-state c = pair_cycles-add

pub returns-clause-stays : goal.returns-clause-stays
returns-clause-stays c = pair_cycles-over
