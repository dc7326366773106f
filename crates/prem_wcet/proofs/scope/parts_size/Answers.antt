use Rattle.std.proofs.Common.{◌+◌, ap, ◌∙◌, arith, drop}
use Rattle.prem_asm.specs.Pieces.{size_of}
use Rattle.prem_wcet.specs.Outlines.{code_of}
use Rattle.prem_wcet.specs.PartsOf.{parts_of, part_code}
use Rattle.prem_wcet.proofs.PartRows.{code_drop}
use Rattle.prem_wcet.proofs.PlaceWeights.{size_followed}
use Rattle.prem_wcet.proofs.scope.parts_size.Goals as goal

pub size-requires : goal.size-requires
size-requires c =
    let rest = code_of (parts_of (drop (c.loop-part.part-index + 1) c.args.parts.now)) in
    let d = ap size_of (code_drop c.args.parts.now c.loop-part.part-index c.part-item.result c.loop-part-test.true c.part-item.is) ∙ size_followed (part_code c.part-item.result) rest in
    let e = ap size_of c.code.ensures in
    omega (arith, c.requires, c.loop-part.invariant, d, e)

pub overflow_cast-sum : goal.overflow_cast-sum
overflow_cast-sum c =
    let rest = code_of (parts_of (drop (c.loop-part.part-index + 1) c.args.parts.now)) in
    let d = ap size_of (code_drop c.args.parts.now c.loop-part.part-index c.part-item.result c.loop-part-test.true c.part-item.is) ∙ size_followed (part_code c.part-item.result) rest in
    let e = ap size_of c.code.ensures in
    omega (arith, c.requires, c.loop-part.invariant, d, e, c.size.ensures)

pub overflow_add-sum : goal.overflow_add-sum
overflow_add-sum c =
    let rest = code_of (parts_of (drop (c.loop-part.part-index + 1) c.args.parts.now)) in
    let d = ap size_of (code_drop c.args.parts.now c.loop-part.part-index c.part-item.result c.loop-part-test.true c.part-item.is) ∙ size_followed (part_code c.part-item.result) rest in
    let e = ap size_of c.code.ensures in
    omega (arith, c.requires, c.loop-part.invariant, d, e, c.size.ensures)

pub loop-part-preserved : goal.loop-part-preserved
loop-part-preserved c =
    let rest = code_of (parts_of (drop (c.loop-part.part-index + 1) c.args.parts.now)) in
    let d = ap size_of (code_drop c.args.parts.now c.loop-part.part-index c.part-item.result c.loop-part-test.true c.part-item.is) ∙ size_followed (part_code c.part-item.result) rest in
    let e = ap size_of c.code.ensures in
    omega (arith, c.requires, c.loop-part.invariant, d, e, c.size.ensures)
