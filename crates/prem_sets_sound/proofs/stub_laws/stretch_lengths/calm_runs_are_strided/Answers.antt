use Rattle.prem_sets_sound.proofs.StubLawsLemmas.StretchLengthsLemmas.Walk.{calm_runs_are_strided}
use Rattle.prem_sets_sound.proofs.stub_laws.stretch_lengths.calm_runs_are_strided.Goals as goal

pub returns : goal.returns
returns c = calm_runs_are_strided
