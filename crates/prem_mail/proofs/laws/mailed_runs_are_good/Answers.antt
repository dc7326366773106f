use Rattle.prem_mail.proofs.Words.{mailed_runs_are_good}
use Rattle.prem_mail.proofs.laws.mailed_runs_are_good.Goals as goal

pub returns : goal.returns
returns c = mailed_runs_are_good
