use Rattle.prem_sound.proofs.ScopesLemmas.StrandLaws.{strands_join, jobs_are_charged, charges_look_at_calls}
use Rattle.prem_sound.proofs.ScopesLemmas.StrandRuns.{strands_are_charged}
use Rattle.prem_sound.proofs.scopes.strands_are_charged.Goals as goal

pub returns-clause-runs : goal.returns-clause-runs
returns-clause-runs c = strands_are_charged

pub returns-clause-join : goal.returns-clause-join
returns-clause-join c = strands_join

pub returns-clause-jobs : goal.returns-clause-jobs
returns-clause-jobs c = jobs_are_charged

pub returns-clause-calls : goal.returns-clause-calls
returns-clause-calls c = charges_look_at_calls
