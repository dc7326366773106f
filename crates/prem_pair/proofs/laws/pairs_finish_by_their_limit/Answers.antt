use Rattle.prem_pair.proofs.LawsLemmas.Finishing.{pairs_finish, pairs_finish_by_totals}
use Rattle.prem_pair.proofs.laws.pairs_finish_by_their_limit.Goals as goal

pub returns-clause-dues : goal.returns-clause-dues
returns-clause-dues c = pairs_finish

pub returns-clause-charges : goal.returns-clause-charges
returns-clause-charges c = pairs_finish_by_totals
