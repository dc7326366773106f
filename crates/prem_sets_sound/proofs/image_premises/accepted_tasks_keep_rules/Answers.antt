use Rattle.prem_sets_sound.proofs.ImagePremisesLemmas.Rules.{accepted_tasks_keep_rules}
use Rattle.prem_sets_sound.proofs.image_premises.accepted_tasks_keep_rules.Goals as goal

pub returns : goal.returns
returns c = accepted_tasks_keep_rules
