use Rattle.prem_sound.proofs.ScopesLemmas.Alone.{singles_are_due}
use Rattle.prem_sound.proofs.ScopesLemmas.StrandLaws.{scopes_sum_up, charges_by_access}
use Rattle.prem_sound.proofs.ScopesLemmas.Totals.{charges_sum_up}
use Rattle.prem_sound.proofs.scopes.scopes_sum_up.Goals as goal

pub returns-clause-sums : goal.returns-clause-sums
returns-clause-sums c = scopes_sum_up

pub returns-clause-singles : goal.returns-clause-singles
returns-clause-singles c = singles_are_due

pub returns-clause-jobs : goal.returns-clause-jobs
returns-clause-jobs c = charges_sum_up

pub returns-clause-accesses : goal.returns-clause-accesses
returns-clause-accesses c = charges_by_access
