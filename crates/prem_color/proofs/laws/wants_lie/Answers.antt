use Rattle.prem_color.proofs.Sets.{wants_lie}
use Rattle.prem_color.proofs.laws.wants_lie.Goals as goal

pub returns : goal.returns
returns c = wants_lie
