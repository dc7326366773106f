use Rattle.std.proofs.Common.{◌+◌, ap, ◌∙◌, sym, arith, drop}
use Rattle.prem_asm.specs.Pieces.{followed, size_of}
use Rattle.prem_asm.specs.PiecesOf.{pieces_of}
use Rattle.prem_asm.proofs.Rows.{followed_append}
use Rattle.prem_bounds.specs.Scale.{clipped}
use Rattle.prem_wcet_laws.specs.Weights.{weighted_from}
use Rattle.prem_wcet.specs.Outlines.{code_of}
use Rattle.prem_wcet.specs.PartsOf.{parts_of, part_code}
use Rattle.prem_wcet.specs.Walks.{calls_by, weight_by}
use Rattle.prem_wcet.proofs.PartRows.{code_drop}
use Rattle.prem_wcet.proofs.PlaceWeights.{begun, gone, size_followed}
use Rattle.prem_wcet.proofs.scope.walk_parts.Goals as goal

pub walk-all-requires-clause-place : goal.walk-all-requires-clause-place
walk-all-requires-clause-place c =
    omega (arith, c.requires.place, size_followed (pieces_of c.args.before.now) (followed (code_of (parts_of c.args.parts.now)) (pieces_of c.args.last.now)))

pub loop-part-init : goal.loop-part-init
loop-part-init c =
    let qs = followed (code_of (parts_of c.args.parts.now)) (pieces_of c.args.last.now) in
    record {
      rest = begun (weight_by c.args.scale.now) (calls_by c.args.scale.now) c.args.at c.walk-all.result.sum c.walk-all.result.end
          (pieces_of c.args.before.now) qs c.walk-all.ensures.sum c.walk-all.ensures.end;
      place = omega (arith, c.walk-all.ensures.end, size_followed (pieces_of c.args.before.now) qs);
    }

pub walk_on-all-requires-clause-place : goal.walk_on-all-requires-clause-place
walk_on-all-requires-clause-place c =
    let last = pieces_of c.args.last.now in
    let rest = code_of (parts_of (drop (c.loop-part.part-index + 1) c.args.parts.now)) in
    let here = part_code c.part-item.result in
    let d = code_drop c.args.parts.now c.loop-part.part-index c.part-item.result c.loop-part-test.true c.part-item.is in
    let whole = ap (λ q. followed q last) d ∙ followed_append here rest last in
    let long = ap size_of whole ∙ size_followed here (followed rest last) in
    let e = ap size_of c.code.ensures in
    omega (arith, c.requires.place, c.loop-part.invariant.place, long, e)

pub loop-part-preserved : goal.loop-part-preserved
loop-part-preserved c =
    let last = pieces_of c.args.last.now in
    let rest = code_of (parts_of (drop (c.loop-part.part-index + 1) c.args.parts.now)) in
    let here = part_code c.part-item.result in
    let d = code_drop c.args.parts.now c.loop-part.part-index c.part-item.result c.loop-part-test.true c.part-item.is in
    let whole = ap (λ q. followed q last) d ∙ followed_append here rest last in
    let long = ap size_of whole ∙ size_followed here (followed rest last) in
    let e = ap size_of c.code.ensures in
    let w = weight_by c.args.scale.now in
    let k = calls_by c.args.scale.now in
    record {
      rest =
          gone w k c.loop-part.all.sum c.loop-part.all.end c.walk_on-all.result.sum c.walk_on-all.result.end (pieces_of c.code.result.now)
          (followed rest last) c.walk_on-all.ensures.sum c.walk_on-all.ensures.end
          ∙ ap (λ ps. clipped (c.loop-part.all.sum + weighted_from w k c.loop-part.all.end ps)) (ap (λ q. followed q (followed rest last)) c.code.ensures ∙ sym whole) ∙ c.loop-part.invariant.rest;
      place = omega (arith, c.loop-part.invariant.place, c.walk_on-all.ensures.end, long, e);
    }
