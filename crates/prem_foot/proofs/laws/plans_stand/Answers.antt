use Rattle.prem_foot.proofs.Standing.{plans_stand}
use Rattle.prem_foot.proofs.laws.plans_stand.Goals as goal

pub returns : goal.returns
returns c = plans_stand
