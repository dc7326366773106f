use Rattle.prem_sets_sound.proofs.StubLawsLemmas.JobChargesLemmas.Called.{functions_call}
use Rattle.prem_sets_sound.proofs.StubLawsLemmas.JobChargesLemmas.Stubs.{stubs_are_charged}
use Rattle.prem_sets_sound.proofs.StubLawsLemmas.JobChargesLemmas.Walk.{calm_runs_are_charged}
use Rattle.prem_sets_sound.proofs.stub_laws.job_charges.runs_are_charged.Goals as goal

pub returns-clause-runs : goal.returns-clause-runs
returns-clause-runs c = calm_runs_are_charged

pub returns-clause-stubs : goal.returns-clause-stubs
returns-clause-stubs c = stubs_are_charged

pub returns-clause-called : goal.returns-clause-called
returns-clause-called c = functions_call
