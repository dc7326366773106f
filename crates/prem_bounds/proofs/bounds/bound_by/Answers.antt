use Rattle.std.proofs.Common.{ap, ◌*◌, arith}
use Rattle.prem_bounds.proofs.bounds.bound_by.Goals as goal

pub returns-then-bound-clause-large : goal.returns-then-bound-clause-large
returns-then-bound-clause-large c =
    let told = c.requires.costs.each c.args.k in
    let e = ap (λ m. c.args.lines * m) c.from.ensures in
    omega (arith, told, c.saturating_sub-path.ensures, c.saturating_mul-misses.ensures, c.saturating_add-bound.ensures, c.if-bound.true, e)

pub returns-else-bound-clause-bound : goal.returns-else-bound-clause-bound
returns-else-bound-clause-bound c =
    let told = c.requires.costs.each c.args.k in
    let e = ap (λ m. c.args.lines * m) c.from.ensures in
    omega (arith, told, c.saturating_sub-path.ensures, c.saturating_mul-misses.ensures, c.saturating_add-bound.ensures, c.if-bound.false, e)

pub returns-else-bound-clause-small : goal.returns-else-bound-clause-small
returns-else-bound-clause-small c =
    let told = c.requires.costs.each c.args.k in
    let e = ap (λ m. c.args.lines * m) c.from.ensures in
    omega (arith, told, c.saturating_sub-path.ensures, c.saturating_mul-misses.ensures, c.saturating_add-bound.ensures, c.if-bound.false, e)
