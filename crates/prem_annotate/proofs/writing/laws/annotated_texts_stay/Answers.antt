use Rattle.prem_annotate.proofs.WritingLemmas.Writing.{texts_stay}
use Rattle.prem_annotate.proofs.writing.laws.annotated_texts_stay.Goals as goal

pub returns : goal.returns
returns c = texts_stay
