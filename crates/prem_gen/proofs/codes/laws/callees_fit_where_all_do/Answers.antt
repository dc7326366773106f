use Rattle.prem_gen.proofs.CodesLemmas.Sameness.{callees_are_among_all}
use Rattle.prem_gen.proofs.codes.laws.callees_fit_where_all_do.Goals as goal

pub returns : goal.returns
returns c = callees_are_among_all
