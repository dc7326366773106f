use Rattle.prem_time.proofs.DeadlinesLemmas.Deadlines.{loads_tell}
use Rattle.prem_time.proofs.deadlines.loads_tell.Goals as goal

pub returns : goal.returns
returns c = loads_tell
