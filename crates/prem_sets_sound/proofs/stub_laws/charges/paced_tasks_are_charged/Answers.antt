use Rattle.prem_sets_sound.proofs.StubLawsLemmas.ChargesLemmas.Singles.{paced_tasks_are_charged}
use Rattle.prem_sets_sound.proofs.stub_laws.charges.paced_tasks_are_charged.Goals as goal

pub returns : goal.returns
returns c = paced_tasks_are_charged
