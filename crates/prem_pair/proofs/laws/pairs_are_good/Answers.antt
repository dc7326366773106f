use Rattle.prem_pair.proofs.LawsLemmas.Goodness.{pairs_are_good}
use Rattle.prem_pair.proofs.laws.pairs_are_good.Goals as goal

pub returns : goal.returns
returns c = pairs_are_good
