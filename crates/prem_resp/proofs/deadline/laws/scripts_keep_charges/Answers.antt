use Rattle.prem_resp.proofs.DeadlineLemmas.Timelines.{scripts_keep_charges}
use Rattle.prem_resp.proofs.deadline.laws.scripts_keep_charges.Goals as goal

pub returns : goal.returns
returns c = scripts_keep_charges
