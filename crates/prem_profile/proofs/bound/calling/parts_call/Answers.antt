use Rattle.std.specs.Prelude.{◌||◌}
use Rattle.std.proofs.Common.{◌≡◌, ◌+◌, true, false, drop, ap, sym, ◌∙◌, arith}
use Rattle.prem_wcet.specs.Outlines.{code_of}
use Rattle.prem_wcet.specs.PartsOf.{parts_of, part_code}
use Rattle.prem_wcet.proofs.PartRows.{code_drop}
use Rattle.prem_profile.specs.Bound.Pieces.{has_call}
use Rattle.prem_profile.proofs.BillLemmas.Calling.{call_followed}
use Rattle.prem_profile.proofs.BillLemmas.Slots.{past}
use Rattle.prem_profile.proofs.bound.calling.parts_call.Goals as goal

pub returns-then-pieces_call : goal.returns-then-pieces_call
returns-then-pieces_call c =
    let rest = code_of (parts_of (drop (c.parts.part-index + 1) c.args.parts.now)) in
    let d = ap has_call (code_drop c.args.parts.now c.parts.part-index c.part-item.result c.parts-test.true c.part-item.is) ∙ call_followed (part_code c.part-item.result) rest in
    let calls : has_call (part_code c.part-item.result) ≡ true = ap has_call (sym c.code.ensures) ∙ sym c.pieces_call.ensures ∙ c.if-pieces_call.true in
    sym (ap (λ b. b || has_call rest) calls) ∙ sym d ∙ c.parts.invariant

pub parts-preserved : goal.parts-preserved
parts-preserved c =
    let rest = code_of (parts_of (drop (c.parts.part-index + 1) c.args.parts.now)) in
    let d = ap has_call (code_drop c.args.parts.now c.parts.part-index c.part-item.result c.parts-test.true c.part-item.is) ∙ call_followed (part_code c.part-item.result) rest in
    let none : has_call (part_code c.part-item.result) ≡ false = ap has_call (sym c.code.ensures) ∙ sym c.pieces_call.ensures ∙ c.if-pieces_call.false in
    sym (ap (λ b. b || has_call rest) none) ∙ sym d ∙ c.parts.invariant

pub returns : goal.returns
returns c =
    ap (λ ps. has_call (code_of (parts_of ps))) (sym (past c.args.parts.now c.parts.part-index (omega (arith, c.parts-test.false)))) ∙ c.parts.invariant
