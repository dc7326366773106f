use Rattle.prem_tiling.proofs.LawsLemmas.Numbers.{ceil_small}
use Rattle.std.proofs.Common.{◌-◌, arith}
use Rattle.prem_tiling.proofs.copies.shape.turns_of.Goals as goal

pub returns-else-bound-low-clause-small : goal.returns-else-bound-low-clause-small
returns-else-bound-low-clause-small c =
    let e = c.div_ceil.ensures in
    let s = ceil_small (c.bound_of-bound.result - c.args.l.now.low.value) c.args.l.now.step c.requires in
    let b = c.bound_of-bound.ensures.small in
    omega arith
