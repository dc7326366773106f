use Rattle.prem_time.proofs.Serving.{sets_serve_named}
use Rattle.prem_time.proofs.laws.sets_serve_named.Goals as goal

pub returns : goal.returns
returns c = sets_serve_named
