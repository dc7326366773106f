use Rattle.prem_latency.proofs.WcetLemmas.Aligned.{courses_are_strands}
use Rattle.prem_latency.proofs.wcet.courses_are_strands.Goals as goal

pub returns : goal.returns
returns c = courses_are_strands
