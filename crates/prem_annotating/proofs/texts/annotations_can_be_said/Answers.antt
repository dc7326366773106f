use Rattle.prem_annotating.proofs.Said.{annotations_can_be_said}
use Rattle.prem_annotating.proofs.texts.annotations_can_be_said.Goals as goal

pub returns : goal.returns
returns c = annotations_can_be_said
