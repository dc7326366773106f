use Rattle.std.proofs.Common.{◌+◌, ◌*◌, ◌<◌, ◌^◌, sym, subst, arith}
use Rattle.std.proofs.lemmas.Nat.{mul-le}
use Rattle.prem_color.specs.Wants.{element_at}
use Rattle.prem_color.specs.WantOf.{shape_in}
use Rattle.prem_color.proofs.wants.region_want.Goals as goal

pub overflow_mul-result : goal.overflow_mul-result
overflow_mul-result c =
    let r = c.args.region in
    let element = element_at (shape_in c.args.shape.now) r.0 in
    let order = c.requires.order in
    let ends = c.requires.ends in
    let le = mul-le r.1 element (r.2 + 1) element (omega (arith, order)) (omega arith) in
    let within : r.1 * c.element_at-size.result < 2 ^ 32 = subst (λ n. r.1 * n < 2 ^ 32) (sym c.element_at-size.ensures) (omega (arith, le, ends)) in
    omega (arith, within)
