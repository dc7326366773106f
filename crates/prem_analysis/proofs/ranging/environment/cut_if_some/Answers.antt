use Rattle.prem_analysis.proofs.Prelude.{span_of, Span, arith, ap, ints}
use Rattle.prem_ranges.proofs.Kept.{narrower}
use Rattle.prem_analysis.proofs.ranging.environment.cut_if_some.Goals as goal

pub invariant_of-result : goal.invariant_of-result
invariant_of-result c =
    let n = narrower c.args.op (span_of c.args.l.range) (span_of c.args.e) in
    let low = ap (λ (s : Span). s.lo) c.cut_ends-lo.ensures in
    let high = ap (λ (s : Span). s.hi) c.cut_ends-lo.ensures in
    let a = n.low in let b = n.high in let least = c.args.l.range.least in let greatest = c.args.l.range.greatest in let t = c.if-lo-hi.true in
    record { ordered = omega (arith, ints, t); least = omega (arith, ints, a, low, least); greatest = omega (arith, ints, b, high, greatest) }
