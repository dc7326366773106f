use Rattle.prem_gen.proofs.NumbersLemmas.Numbers.{resolved_are_small}
use Rattle.prem_gen.proofs.numbers.resolved_terms_are_small.Goals as goal

pub returns : goal.returns
returns c = resolved_are_small
