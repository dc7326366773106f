use Rattle.prem_sound.proofs.Finishing.{scripts_finish_by_totals, scripts_finish_by_jobs}
use Rattle.prem_sound.proofs.laws.runs_finish_by_their_charges.Goals as goal

pub returns-clause-jobs : goal.returns-clause-jobs
returns-clause-jobs c = scripts_finish_by_jobs

pub returns-clause-totals : goal.returns-clause-totals
returns-clause-totals c = scripts_finish_by_totals
