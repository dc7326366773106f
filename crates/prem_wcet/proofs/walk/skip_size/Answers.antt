use Rattle.std.proofs.Common.{◌*◌, ap, sym}
use Rattle.prem_asm.proofs.PieceWords.{skip_some}
use Rattle.prem_wcet.proofs.walk.skip_size.Goals as goal

pub returns-in-len1-up-clause-size : goal.returns-in-len1-up-clause-size
returns-in-len1-up-clause-size c = ap (λ n. 4 * n) (sym (skip_some c.args.other.now c.in-len1-up.len_at_least))
