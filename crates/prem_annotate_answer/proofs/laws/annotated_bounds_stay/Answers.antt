use Rattle.prem_annotate_answer.proofs.Annotating.{annotated_bounds_stay}
use Rattle.prem_annotate_answer.proofs.laws.annotated_bounds_stay.Goals as goal

pub returns : goal.returns
returns c = annotated_bounds_stay
