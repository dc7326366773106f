use Rattle.prem_resp.proofs.DeadlineLemmas.Images.{scripts_finish_by_charges}
use Rattle.prem_resp.proofs.deadline.laws.scripts_finish_by_charges.Goals as goal

pub returns : goal.returns
returns c = scripts_finish_by_charges
