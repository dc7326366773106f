use Rattle.prem_running.proofs.SetLawsLemmas.Names.{lawful_runs_fit}
use Rattle.prem_running.proofs.set_laws.run_files_of_sets_fit.Goals as goal

pub returns : goal.returns
returns c = lawful_runs_fit
