use Rattle.prem_wcet.proofs.PieceCuts.{tail_is}
use Rattle.prem_wcet.proofs.outline.tail.Goals as goal

pub returns-in-len1-up : goal.returns-in-len1-up
returns-in-len1-up c = tail_is c.args.code.now c.in-len1-up.len_at_least
