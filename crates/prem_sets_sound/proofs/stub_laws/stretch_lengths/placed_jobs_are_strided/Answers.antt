use Rattle.prem_sets_sound.proofs.StubLawsLemmas.StretchLengthsLemmas.Table.{placed_jobs_are_strided}
use Rattle.prem_sets_sound.proofs.stub_laws.stretch_lengths.placed_jobs_are_strided.Goals as goal

pub returns : goal.returns
returns c = placed_jobs_are_strided
