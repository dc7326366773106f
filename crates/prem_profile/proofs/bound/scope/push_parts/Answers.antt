use Rattle.std.proofs.Common.{◌+◌, ◌++◌, refl, ap, ◌∙◌, sym, arith, drop}
use Rattle.prem_asm.specs.Pieces.{followed, size_of}
use Rattle.prem_asm.specs.PiecesOf.{pieces_of}
use Rattle.prem_asm.proofs.Rows.{followed_append}
use Rattle.prem_wcet.specs.Outlines.{code_of}
use Rattle.prem_wcet.specs.PartsOf.{parts_of, part_code}
use Rattle.prem_wcet.proofs.PartRows.{code_drop}
use Rattle.prem_wcet.proofs.PlaceWeights.{size_followed}
use Rattle.prem_profile.specs.Bound.Pieces.{bill_from}
use Rattle.prem_profile.specs.Bound.Priced.{calls_by, costs_by}
use Rattle.prem_profile.proofs.BillLemmas.Pieces.{bill_followed, gone}
use Rattle.prem_profile.proofs.BillLemmas.Slots.{past}
use Rattle.prem_profile.proofs.bound.scope.push_parts.Goals as goal

pub push_pieces-requires-clause-place : goal.push_pieces-requires-clause-place
push_pieces-requires-clause-place c =
    omega (arith, c.requires.place, size_followed (pieces_of c.args.before.now) (followed (code_of (parts_of c.args.parts.now)) (pieces_of c.args.last.now)))

pub loop-part-init : goal.loop-part-init
loop-part-init c =
    let k = costs_by c.args.prices.now in
    let m = calls_by c.args.prices.now in
    let first = pieces_of c.args.before.now in
    let qs = followed (code_of (parts_of c.args.parts.now)) (pieces_of c.args.last.now) in
    record {
      rest = gone _ _ _ _ _ _ _ c.in_ok-end.ensures.bill (ap (λ n. bill_from k m n qs) c.in_ok-end.ensures.end) (bill_followed k m c.args.at first qs) refl;
      place = omega (arith, c.in_ok-end.ensures.end, size_followed first qs);
    }

pub push_pieces-requires-in-loop-part-clause-place : goal.push_pieces-requires-in-loop-part-clause-place
push_pieces-requires-in-loop-part-clause-place c =
    let last = pieces_of c.args.last.now in
    let rest = code_of (parts_of (drop (c.loop-part.part-index + 1) c.args.parts.now)) in
    let here = part_code c.part-item.result in
    let d = code_drop c.args.parts.now c.loop-part.part-index c.part-item.result c.loop-part-test.true c.part-item.is in
    let whole = ap (λ q. followed q last) d ∙ followed_append here rest last in
    let long = ap size_of whole ∙ size_followed here (followed rest last) in
    let e = ap size_of c.code.ensures in
    omega (arith, c.requires.place, c.loop-part.invariant.place, long, e)

pub loop-part-preserved : goal.loop-part-preserved
loop-part-preserved c =
    let k = costs_by c.args.prices.now in
    let m = calls_by c.args.prices.now in
    let last = pieces_of c.args.last.now in
    let rest = code_of (parts_of (drop (c.loop-part.part-index + 1) c.args.parts.now)) in
    let here = part_code c.part-item.result in
    let d = code_drop c.args.parts.now c.loop-part.part-index c.part-item.result c.loop-part-test.true c.part-item.is in
    let whole = ap (λ q. followed q last) d ∙ followed_append here rest last in
    let long = ap size_of whole ∙ size_followed here (followed rest last) in
    let e = ap size_of c.code.ensures in
    record {
      rest =
          gone _ _ _ _ _ _ _ c.in_ok-end-2.ensures.bill (ap (λ n. bill_from k m n (followed rest last)) c.in_ok-end-2.ensures.end)
          (ap (bill_from k m c.loop-part.end) (whole ∙ ap (λ q. followed q (followed rest last)) (sym c.code.ensures)) ∙ bill_followed k m c.loop-part.end (pieces_of c.code.result.now) (followed rest last))
          c.loop-part.invariant.rest;
      place = omega (arith, c.loop-part.invariant.place, c.in_ok-end-2.ensures.end, long, e);
    }

pub returns : goal.returns
returns c =
    let k = costs_by c.args.prices.now in
    let m = calls_by c.args.prices.now in
    let last = pieces_of c.args.last.now in
    c.in_ok-push_pieces.ensures.bill
    ∙ ap (λ ps. c.loop-part.bill.items ++ bill_from k m c.loop-part.end (followed (code_of (parts_of ps)) last)) (sym (past c.args.parts.now c.loop-part.part-index (omega (arith, c.loop-part-test.false))))
    ∙ c.loop-part.invariant.rest
