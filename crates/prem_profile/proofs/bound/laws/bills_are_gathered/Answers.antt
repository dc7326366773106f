use Rattle.prem_profile.proofs.BoundLemmas.Gathered as lemmas
use Rattle.prem_profile.proofs.bound.laws.bills_are_gathered.Goals as goal

pub returns : goal.returns
returns c = lemmas.bills_are_gathered
