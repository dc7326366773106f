use Rattle.prem_annotate.proofs.Prelude.{arith, ints, clamps}
use Rattle.prem_annotate.proofs.ranges.slots.least_around.Goals as goal

pub invariant_of-result : goal.invariant_of-result
invariant_of-result c =
    let low = c.min.ensures.value in let high = c.max.ensures.value in
    let a = c.args.a.ordered in let b = c.args.b.ordered in let d = c.args.a.least in let e = c.args.b.least in let f = c.args.a.greatest in let g = c.args.b.greatest in
    record { ordered = omega (arith, ints, clamps, low, high, a, b); least = omega (arith, ints, clamps, low, d, e); greatest = omega (arith, ints, clamps, high, f, g) }
