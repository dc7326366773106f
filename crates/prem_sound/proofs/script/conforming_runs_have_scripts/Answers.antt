use Rattle.prem_sound.proofs.ScriptLemmas.Conforming.{conforming, keeping}
use Rattle.prem_sound.proofs.script.conforming_runs_have_scripts.Goals as goal

pub returns-clause-scripts : goal.returns-clause-scripts
returns-clause-scripts c = conforming

pub returns-clause-promises : goal.returns-clause-promises
returns-clause-promises c = keeping
