use Rattle.std.specs.Prelude.{pos, ◌+ℤ◌, ◌-ℤ◌}
use Rattle.prem_analysis.proofs.Prelude.{ends, from_to, arith, sym, ◌∙◌, to_z, of_z, ints, clamps, w64, int_max}
use Rattle.prem_analysis.proofs.RangingLemmas.Locals.{within_yes, within_no, below_greatest}
use Rattle.prem_analysis.proofs.ranging.bounds.range_behind.Goals as goal

pub invariant_of-result : goal.invariant_of-result
invariant_of-result c =
    let high = below_greatest (to_z w64 (of_z w64 c.args.low.lo)) (to_z w64 (of_z w64 c.max-hi.result)) (sym c.is_within_int.ensures ∙ c.if-is_within_int.true) in
    let value = c.max-hi.ensures.value in let a = c.args.low.ordered in let b = c.args.low.least in
    record { ordered = omega (arith, ints, clamps, value, a); least = omega (arith, ints, b); greatest = omega (arith, ints, high) }

pub returns-then-is_within_int : goal.returns-then-is_within_int
returns-then-is_within_int c =
    let value = c.max-hi.ensures.value in let e = c.from.ensures in
    let least = c.requires.least in let greatest = c.requires.greatest in
    within_yes (from_to (to_z w64 (of_z w64 c.args.low.lo)) (to_z w64 (of_z w64 c.max-hi.result)))
    (from_to c.args.low.lo (int_max c.args.low.hi (c.args.end -ℤ pos 1 +ℤ pos c.args.step)))
    (ends _ _ _ _ (omega (arith, ints)) (omega (arith, ints, clamps, value, e))) (sym c.is_within_int.ensures ∙ c.if-is_within_int.true)

pub returns : goal.returns
returns c =
    let value = c.max-hi.ensures.value in let e = c.from.ensures in
    let least = c.requires.least in let greatest = c.requires.greatest in
    c.whole_range.ensures
    ∙ within_no (from_to (to_z w64 (of_z w64 c.args.low.lo)) (to_z w64 (of_z w64 c.max-hi.result)))
    (from_to c.args.low.lo (int_max c.args.low.hi (c.args.end -ℤ pos 1 +ℤ pos c.args.step)))
    (ends _ _ _ _ (omega (arith, ints)) (omega (arith, ints, clamps, value, e))) (sym c.is_within_int.ensures ∙ c.if-is_within_int.false)
