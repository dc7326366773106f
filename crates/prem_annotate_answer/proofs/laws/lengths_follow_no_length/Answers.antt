use Rattle.prem_annotate_answer.proofs.Stated.{lengths_unstated}
use Rattle.prem_annotate_answer.proofs.laws.lengths_follow_no_length.Goals as goal

pub returns : goal.returns
returns c = lengths_unstated
