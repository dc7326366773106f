use Rattle.prem_resp.proofs.DeadlineLemmas.Timelines.{scripts_meet_deadlines}
use Rattle.prem_resp.proofs.deadline.laws.scripts_meet_deadlines.Goals as goal

pub returns : goal.returns
returns c = scripts_meet_deadlines
