use Rattle.prem_annotate.proofs.WritingLemmas.Writing.{texts_are_read}
use Rattle.prem_annotate.proofs.writing.laws.annotated_texts_are_read.Goals as goal

pub returns : goal.returns
returns c = texts_are_read
