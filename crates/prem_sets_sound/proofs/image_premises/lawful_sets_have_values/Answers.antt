use Rattle.prem_sets_sound.proofs.ImagePremisesLemmas.Whole.{lawful_sets_have_values}
use Rattle.prem_sets_sound.proofs.image_premises.lawful_sets_have_values.Goals as goal

pub returns : goal.returns
returns c = lawful_sets_have_values
