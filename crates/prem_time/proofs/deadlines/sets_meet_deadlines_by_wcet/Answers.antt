use Rattle.prem_time.proofs.DeadlinesLemmas.Deadlines.{sets_meet_deadlines_by_wcet}
use Rattle.prem_time.proofs.deadlines.sets_meet_deadlines_by_wcet.Goals as goal

pub returns : goal.returns
returns c = sets_meet_deadlines_by_wcet
