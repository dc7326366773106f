use Rattle.prem_sound.proofs.ScopesLemmas.Alone.{paced_runs_are_charged}
use Rattle.prem_sound.proofs.scopes.paced_runs_are_charged.Goals as goal

pub returns : goal.returns
returns c = paced_runs_are_charged
