use Rattle.prem_sound.proofs.ScopesLemmas.Parting.{one_is_parted, each_is_parted, parts_join, parts_grow, parts_are_strands, calls_are_strands, jobs_end_due, strands_sum_up}
use Rattle.prem_sound.proofs.ScopesLemmas.Parting.{stretches_shrink}
use Rattle.prem_sound.proofs.scopes.parts_are_strands.Goals as goal

pub returns-clause-one : goal.returns-clause-one
returns-clause-one c = one_is_parted

pub returns-clause-each : goal.returns-clause-each
returns-clause-each c = each_is_parted

pub returns-clause-join : goal.returns-clause-join
returns-clause-join c = parts_join

pub returns-clause-grow : goal.returns-clause-grow
returns-clause-grow c = parts_grow

pub returns-clause-strands : goal.returns-clause-strands
returns-clause-strands c = parts_are_strands

pub returns-clause-sums : goal.returns-clause-sums
returns-clause-sums c = strands_sum_up

pub returns-clause-shrink : goal.returns-clause-shrink
returns-clause-shrink c = stretches_shrink

pub returns-clause-calls : goal.returns-clause-calls
returns-clause-calls c = calls_are_strands

pub returns-clause-ends : goal.returns-clause-ends
returns-clause-ends c = jobs_end_due
