use Rattle.prem_annotating.proofs.Least.{regions_are_least}
use Rattle.prem_annotating.proofs.laws.regions_are_the_least.Goals as goal

pub returns : goal.returns
returns c = regions_are_least
