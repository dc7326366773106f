use Rattle.prem_annotate_answer.proofs.Stays.{annotated_sets_stay}
use Rattle.prem_annotate_answer.proofs.laws.annotated_sets_stay.Goals as goal

pub returns : goal.returns
returns c = annotated_sets_stay
