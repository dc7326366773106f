use Rattle.std.proofs.Common.{ap, ◌∙◌, sym, arith, ◌+◌, drop}
use Rattle.prem_asm.specs.Pieces.{back_at, size_of, test_at}
use Rattle.prem_asm.specs.PiecesOf.{pieces_of}
use Rattle.prem_asm.proofs.PieceWords.{count, is_either, is_repeat, count_item}
use Rattle.prem_bounds.specs.Scale.{clipped}
use Rattle.prem_wcet_laws.specs.Weights.{weighted_from}
use Rattle.prem_wcet.specs.Crowds.{fetch_by}
use Rattle.prem_wcet.specs.Walks.{calls_by, weight_by}
use Rattle.prem_wcet.proofs.WalkSums.{from_drop, repeat_told, size_drop}
use Rattle.prem_wcet.proofs.walk.+walks.Goals as goal

pub walk_piece-walk_either-requires : goal.walk_piece-walk_either-requires
walk_piece-walk_either-requires t c =
    let is = is_either c.args.piece.now c.in-Either.test c.in-Either.taken c.in-Either.other c.items-in-Either.result.now
    c.items-in-Either-2.result.now c.in-Either.is c.items-in-Either.ensures c.items-in-Either-2.ensures in
    (omega (arith, c.decreases, ap count is), (c.requires.cache, omega (arith, c.requires.place, ap size_of is)))

pub walk_piece-walk_repeat-requires : goal.walk_piece-walk_repeat-requires
walk_piece-walk_repeat-requires t c =
    let is = is_repeat c.args.piece.now c.in-Repeat.turns c.in-Repeat.head c.in-Repeat.test c.in-Repeat.body c.items-in-Repeat.result.now
    c.items-in-Repeat-2.result.now c.in-Repeat.is c.items-in-Repeat.ensures c.items-in-Repeat-2.ensures in
    (omega (arith, c.decreases, ap count is), (c.requires.cache, omega (arith, c.requires.place, ap size_of is)))

pub walk_piece-returns-in-Either-clause-sum : goal.walk_piece-returns-in-Either-clause-sum
walk_piece-returns-in-Either-clause-sum t c =
    let is = is_either c.args.piece.now c.in-Either.test c.in-Either.taken c.in-Either.other c.items-in-Either.result.now
    c.items-in-Either-2.result.now c.in-Either.is c.items-in-Either.ensures c.items-in-Either-2.ensures in
    c.walk_either.ensures.sum ∙ ap (λ ps. clipped (weighted_from (weight_by c.args.scale.now) (calls_by c.args.scale.now) c.args.at ps)) (sym is)

pub walk_piece-returns-in-Either-clause-end : goal.walk_piece-returns-in-Either-clause-end
walk_piece-returns-in-Either-clause-end t c =
    let is = is_either c.args.piece.now c.in-Either.test c.in-Either.taken c.in-Either.other c.items-in-Either.result.now
    c.items-in-Either-2.result.now c.in-Either.is c.items-in-Either.ensures c.items-in-Either-2.ensures in
    omega (arith, c.walk_either.ensures.end, ap size_of is)

pub walk_piece-returns-in-Repeat-clause-sum : goal.walk_piece-returns-in-Repeat-clause-sum
walk_piece-returns-in-Repeat-clause-sum t c =
    let is = is_repeat c.args.piece.now c.in-Repeat.turns c.in-Repeat.head c.in-Repeat.test c.in-Repeat.body c.items-in-Repeat.result.now
    c.items-in-Repeat-2.result.now c.in-Repeat.is c.items-in-Repeat.ensures c.items-in-Repeat-2.ensures in
    c.walk_repeat.ensures.sum ∙ ap (λ ps. clipped (weighted_from (weight_by c.args.scale.now) (calls_by c.args.scale.now) c.args.at ps)) (sym is)

pub walk_piece-returns-in-Repeat-clause-end : goal.walk_piece-returns-in-Repeat-clause-end
walk_piece-returns-in-Repeat-clause-end t c =
    let is = is_repeat c.args.piece.now c.in-Repeat.turns c.in-Repeat.head c.in-Repeat.test c.in-Repeat.body c.items-in-Repeat.result.now
    c.items-in-Repeat-2.result.now c.in-Repeat.is c.items-in-Repeat.ensures c.items-in-Repeat-2.ensures in
    omega (arith, c.walk_repeat.ensures.end, ap size_of is)

pub walk-walk_piece-next-requires : goal.walk-walk_piece-next-requires
walk-walk_piece-next-requires t c =
    let left = size_drop c.args.pieces.now c.loop-piece.piece-index c.piece-item.result c.loop-piece-test.true c.piece-item.is in (
      omega (arith, c.decreases, count_item c.args.pieces.now c.loop-piece.piece-index c.piece-item.result c.loop-piece-test.true c.piece-item.is),
      (c.requires.cache, omega (arith, c.requires.place, c.loop-piece.invariant.place, left)),
    )

pub walk-loop-piece-preserved : goal.walk-loop-piece-preserved
walk-loop-piece-preserved t c =
    let s = c.args.scale.now in
    let split = from_drop (weight_by s) (calls_by s) c.args.pieces.now c.loop-piece.piece-index c.piece-item.result c.loop-piece.end c.loop-piece-test.true c.piece-item.is in
    let left = size_drop c.args.pieces.now c.loop-piece.piece-index c.piece-item.result c.loop-piece-test.true c.piece-item.is in
    let there = ap (λ k. weighted_from (weight_by s) (calls_by s) k (pieces_of (drop (c.loop-piece.piece-index + 1) c.args.pieces.now))) c.walk_piece-next.ensures.end in
    record {
      rest = omega (arith, c.loop-piece.invariant.rest, c.plus-sum.ensures, c.walk_piece-next.ensures.sum, split, there);
      small = omega (arith, c.plus-sum.ensures);
      place = omega (arith, c.loop-piece.invariant.place, c.walk_piece-next.ensures.end, left);
    }

pub walk_repeat-returns-clause-sum : goal.walk_repeat-returns-clause-sum
walk_repeat-returns-clause-sum t c =
    let s = c.args.scale.now in
    let there = c.walk-first.ensures.end in
    repeat_told c.args.turns (weighted_from (weight_by s) (calls_by s) c.args.at (pieces_of c.args.head.now))
    (weighted_from (weight_by s) (calls_by s) (test_at c.args.at (pieces_of c.args.head.now) + 8) (pieces_of c.args.body.now))
    (2 + fetch_by s.crowd.now (test_at c.args.at (pieces_of c.args.head.now))) (2 + fetch_by s.crowd.now (back_at c.args.at (pieces_of c.args.head.now) (pieces_of c.args.body.now)))
    (2 + fetch_by s.crowd.now (test_at c.args.at (pieces_of c.args.head.now) + 4)) c.walk-first.result.sum c.walk-inside.result.sum c.jump_at-branch.result c.jump_at-back.result c.jump_at-leave.result
    c.plus-start.result c.plus-through.result c.plus-turn.result c.plus-out.result c.times-all.result c.plus.result c.walk-first.ensures.sum
    (c.walk-inside.ensures.sum ∙ ap (λ k. clipped (weighted_from (weight_by s) (calls_by s) (k + 8) (pieces_of c.args.body.now))) there)
    (c.jump_at-branch.ensures.weight ∙ ap (λ k. 2 + fetch_by s.crowd.now k) there)
    (c.jump_at-back.ensures.weight ∙ ap (λ k. 2 + fetch_by s.crowd.now k) (c.walk-inside.ensures.end ∙ ap (λ k. k + 8 + size_of (pieces_of c.args.body.now)) there))
    (c.jump_at-leave.ensures.weight ∙ ap (λ k. 2 + fetch_by s.crowd.now (k + 4)) there)
    c.plus-start.ensures c.plus-through.ensures c.plus-turn.ensures c.plus-out.ensures c.times-all.ensures c.plus.ensures
