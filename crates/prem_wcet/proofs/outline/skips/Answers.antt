use Rattle.std.proofs.Common.{sym}
use Rattle.prem_asm.proofs.PieceWords.{skip_some}
use Rattle.prem_wcet.proofs.outline.skips.Goals as goal

pub returns-in-len1-up-clause-count : goal.returns-in-len1-up-clause-count
returns-in-len1-up-clause-count c = sym (skip_some c.args.other.now c.in-len1-up.len_at_least)
