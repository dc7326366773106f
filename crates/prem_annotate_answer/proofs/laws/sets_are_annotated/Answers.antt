use Rattle.prem_annotate_answer.proofs.Kept.{sets_are_annotated}
use Rattle.prem_annotate_answer.proofs.laws.sets_are_annotated.Goals as goal

pub returns : goal.returns
returns c = sets_are_annotated
