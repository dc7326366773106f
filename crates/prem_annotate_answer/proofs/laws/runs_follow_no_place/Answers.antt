use Rattle.prem_annotate_answer.proofs.UnplacedRuns.{runs_follow_no_place}
use Rattle.prem_annotate_answer.proofs.laws.runs_follow_no_place.Goals as goal

pub returns : goal.returns
returns c = runs_follow_no_place
