use Rattle.prem_annotate.proofs.WritingLemmas.Writing.{texts_are_edits}
use Rattle.prem_annotate.proofs.writing.laws.annotated_texts_are_edits.Goals as goal

pub returns : goal.returns
returns c = texts_are_edits
