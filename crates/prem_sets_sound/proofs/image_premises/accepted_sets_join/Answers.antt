use Rattle.prem_sets_sound.proofs.ImagePremisesLemmas.Whole.{accepted_sets_are_laid_out, default_places_are_lawful, accepted_sets_join, accepted_sets_are_sound}
use Rattle.prem_sets_sound.proofs.image_premises.accepted_sets_join.Goals as goal

pub returns-clause-laid : goal.returns-clause-laid
returns-clause-laid c = accepted_sets_are_laid_out

pub returns-clause-places : goal.returns-clause-places
returns-clause-places c = default_places_are_lawful

pub returns-clause-joins : goal.returns-clause-joins
returns-clause-joins c = accepted_sets_join

pub returns-clause-sound : goal.returns-clause-sound
returns-clause-sound c = accepted_sets_are_sound
