use Rattle.prem_chart.proofs.Kept.{promises_are_kept}
use Rattle.prem_chart.proofs.laws.promises_are_kept.Goals as goal

pub returns : goal.returns
returns c = promises_are_kept
