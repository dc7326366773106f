use Rattle.prem_profile.proofs.BoundLemmas.Profile as lemmas
use Rattle.prem_profile.proofs.bound.laws.bounds_add_up.Goals as goal

pub returns : goal.returns
returns c = lemmas.bounds_add_up
