use Rattle.prem_bounds.proofs.FactsLemmas.FirstLaws.{short_is_first}
use Rattle.prem_bounds.proofs.facts.laws.short_is_first.Goals as goal

pub returns : goal.returns
returns c = short_is_first
