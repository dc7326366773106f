use Rattle.prem_resp.proofs.TimelyLemmas.Images.{laid_out_sets_meet_deadlines}
use Rattle.prem_resp.proofs.TimelyLemmas.Sets.{sets_meet_deadlines}
use Rattle.prem_resp.proofs.timely.sets_meet_deadlines.Goals as goal

pub returns-clause-laid_out : goal.returns-clause-laid_out
returns-clause-laid_out c = laid_out_sets_meet_deadlines

pub returns-clause-sets : goal.returns-clause-sets
returns-clause-sets c = sets_meet_deadlines
