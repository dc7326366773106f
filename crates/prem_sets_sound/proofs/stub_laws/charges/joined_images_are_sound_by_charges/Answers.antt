use Rattle.prem_sets_sound.proofs.StubLawsLemmas.ChargesLemmas.Images.{joined_images_are_sound_by_charges}
use Rattle.prem_sets_sound.proofs.stub_laws.charges.joined_images_are_sound_by_charges.Goals as goal

pub returns : goal.returns
returns c = joined_images_are_sound_by_charges
