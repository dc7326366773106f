use Rattle.std.proofs.Common.{◌+◌, ◌*◌, ap, arith}
use Rattle.prem_asm.proofs.PieceWords.{skip_some}
use Rattle.prem_wcet.specs.Crowds.{fetch_by}
use Rattle.prem_wcet.proofs.walk.skip_at.Goals as goal

pub returns-in-len1-up : goal.returns-in-len1-up
returns-in-len1-up c =
    let one = ap (λ n. n * (2 + fetch_by c.args.scale.now.crowd.now c.args.at)) (skip_some c.args.other.now c.in-len1-up.len_at_least) in
    omega (arith, c.jump_at.ensures.weight, one)
