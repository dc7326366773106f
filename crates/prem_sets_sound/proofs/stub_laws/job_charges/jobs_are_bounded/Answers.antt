use Rattle.prem_sets_sound.proofs.StubLawsLemmas.JobChargesLemmas.Table.{parts_are_charged, jobs_are_bounded, placed_jobs_are_bounded}
use Rattle.prem_sets_sound.proofs.stub_laws.job_charges.jobs_are_bounded.Goals as goal

pub returns-clause-parts : goal.returns-clause-parts
returns-clause-parts c = parts_are_charged

pub returns-clause-bound : goal.returns-clause-bound
returns-clause-bound c = jobs_are_bounded

pub returns-clause-placed : goal.returns-clause-placed
returns-clause-placed c = placed_jobs_are_bounded
