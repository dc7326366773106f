use Rattle.prem_running.proofs.RunSoundLemmas.Reports.{sound_runs_never_fill, sound_reports_end}
use Rattle.prem_running.proofs.run_sound.sound_runs_never_fill.Goals as goal

pub returns-clause-room : goal.returns-clause-room
returns-clause-room c = sound_runs_never_fill

pub returns-clause-reports : goal.returns-clause-reports
returns-clause-reports c = sound_reports_end
