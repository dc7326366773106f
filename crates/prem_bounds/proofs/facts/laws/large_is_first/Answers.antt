use Rattle.prem_bounds.proofs.FactsLemmas.LargeLaw.{large_is_first}
use Rattle.prem_bounds.proofs.facts.laws.large_is_first.Goals as goal

pub returns : goal.returns
returns c = large_is_first
