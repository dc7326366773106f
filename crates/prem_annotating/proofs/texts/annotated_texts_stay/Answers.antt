use Rattle.prem_annotating.proofs.EditingLemmas.Unchanged.{stays_where_same}
use Rattle.prem_annotating.proofs.texts.annotated_texts_stay.Goals as goal

pub returns : goal.returns
returns c = stays_where_same
