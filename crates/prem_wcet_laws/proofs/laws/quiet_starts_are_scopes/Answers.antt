use Rattle.prem_wcet_laws.proofs.Starts.{quiet_starts_are_scopes}
use Rattle.prem_wcet_laws.proofs.laws.quiet_starts_are_scopes.Goals as goal

pub returns : goal.returns
returns c = quiet_starts_are_scopes
