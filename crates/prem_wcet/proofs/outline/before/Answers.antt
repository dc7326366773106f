use Rattle.std.proofs.Common.{arith}
use Rattle.prem_wcet.proofs.PieceCuts.{before_told}
use Rattle.prem_wcet.proofs.outline.before.Goals as goal

pub returns : goal.returns
returns c = before_told c.args.code.now c.args.last.now c.saturating_sub.result (omega (arith, c.saturating_sub.ensures))
