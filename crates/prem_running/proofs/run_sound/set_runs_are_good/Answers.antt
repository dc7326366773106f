use Rattle.prem_running.proofs.RunSoundLemmas.SetRuns.{set_runs_are_good, set_reports_end}
use Rattle.prem_running.proofs.run_sound.set_runs_are_good.Goals as goal

pub returns-clause-good : goal.returns-clause-good
returns-clause-good c = set_runs_are_good

pub returns-clause-reports : goal.returns-clause-reports
returns-clause-reports c = set_reports_end
