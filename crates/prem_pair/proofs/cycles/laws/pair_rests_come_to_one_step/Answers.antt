use Rattle.prem_pair.proofs.CyclesLemmas.Rests.{pair_one_step}
use Rattle.prem_pair.proofs.cycles.laws.pair_rests_come_to_one_step.Goals as goal

pub returns : goal.returns
returns c = pair_one_step
