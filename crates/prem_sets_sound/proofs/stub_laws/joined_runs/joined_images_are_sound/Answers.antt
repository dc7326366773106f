use Rattle.prem_sets_sound.proofs.StubLawsLemmas.JoinedRunsLemmas.Joined.{joined_images_are_sound}
use Rattle.prem_sets_sound.proofs.stub_laws.joined_runs.joined_images_are_sound.Goals as goal

pub returns : goal.returns
returns c = joined_images_are_sound
