use Rattle.prem_bounds.proofs.FactsLemmas.FirstLaws.{clash_is_first}
use Rattle.prem_bounds.proofs.facts.laws.clash_is_first.Goals as goal

pub returns : goal.returns
returns c = clash_is_first
