use Rattle.prem_sets_sound.proofs.StubLawsLemmas.JoinedRunsLemmas.Ends.{joined_runs_end}
use Rattle.prem_sets_sound.proofs.stub_laws.joined_runs.joined_runs_end.Goals as goal

pub returns : goal.returns
returns c = joined_runs_end
