use Rattle.prem_annotate.proofs.Lengthened.{lengths_are_put}
use Rattle.prem_annotate.proofs.notes.lengths_are_put.Goals as goal

pub returns : goal.returns
returns c = lengths_are_put
