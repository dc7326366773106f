use Rattle.prem_sets_sound.proofs.StubLawsLemmas.StretchLengthsLemmas.Last.{functions_return_last}
use Rattle.prem_sets_sound.proofs.stub_laws.stretch_lengths.functions_return_last.Goals as goal

pub returns : goal.returns
returns c = functions_return_last
