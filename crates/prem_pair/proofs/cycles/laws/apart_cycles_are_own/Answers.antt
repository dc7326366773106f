use Rattle.prem_pair.proofs.CyclesLemmas.Apart.{own_cycles}
use Rattle.prem_pair.proofs.cycles.laws.apart_cycles_are_own.Goals as goal

pub returns : goal.returns
returns c = own_cycles
