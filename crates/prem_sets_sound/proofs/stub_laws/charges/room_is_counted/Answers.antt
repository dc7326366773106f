use Rattle.prem_sets_sound.proofs.StubLawsLemmas.ChargesLemmas.Singles.{room_is_counted}
use Rattle.prem_sets_sound.proofs.stub_laws.charges.room_is_counted.Goals as goal

pub returns : goal.returns
returns c = room_is_counted
