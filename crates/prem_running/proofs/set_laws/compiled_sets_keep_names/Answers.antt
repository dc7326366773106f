use Rattle.prem_running.proofs.SetLawsLemmas.Names.{names_are_kept}
use Rattle.prem_running.proofs.set_laws.compiled_sets_keep_names.Goals as goal

pub returns : goal.returns
returns c = names_are_kept
