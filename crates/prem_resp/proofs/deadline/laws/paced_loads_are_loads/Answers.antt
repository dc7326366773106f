use Rattle.prem_resp.proofs.DeadlineLemmas.Images.{paced_loads_are_loads}
use Rattle.prem_resp.proofs.deadline.laws.paced_loads_are_loads.Goals as goal

pub returns : goal.returns
returns c = paced_loads_are_loads
