use Rattle.prem_annotating.proofs.EditingLemmas.Ranges.{none_past}
use Rattle.std.proofs.Common.{arith, refl}
use Rattle.prem_annotating.proofs.editing.orders.range_at.Goals as goal

pub returns-then-n-ranges : goal.returns-then-n-ranges
returns-then-n-ranges c = refl

pub returns-else-n-ranges : goal.returns-else-n-ranges
returns-else-n-ranges c = none_past c.args.ranges.now c.args.n (omega arith)
