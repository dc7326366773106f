use Rattle.prem_running.proofs.SetLawsLemmas.Limits.{limits_are_small}
use Rattle.prem_running.proofs.set_laws.limits_are_small.Goals as goal

pub returns : goal.returns
returns c = limits_are_small
