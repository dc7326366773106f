use Rattle.prem_running.proofs.RunSoundLemmas.SetRuns.{run_files_suit, inputs_are_lawful}
use Rattle.prem_running.proofs.run_sound.inputs_are_lawful.Goals as goal

pub returns-clause-image : goal.returns-clause-image
returns-clause-image c = run_files_suit

pub returns-clause-set : goal.returns-clause-set
returns-clause-set c = inputs_are_lawful
