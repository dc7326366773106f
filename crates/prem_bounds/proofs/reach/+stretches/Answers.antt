use Rattle.std.proofs.Common.{ap, ◌∙◌, sym, arith}
use Rattle.prem_asm.specs.PiecesOf.{pieces_of}
use Rattle.prem_asm.proofs.PieceWords.{count, is_either, is_repeat, count_item}
use Rattle.prem_layout.specs.Stretch.Sums.{summed, taking}
use Rattle.prem_bounds.specs.ToldSums.{clipped_sums, step_weight, sums_by, sums_of}
use Rattle.prem_bounds.proofs.AlikeSums.{either_told, piece_more, repeat_told}
use Rattle.prem_bounds.proofs.reach.+stretches.Goals as goal

pub either_sums-returns : goal.either_sums-returns
either_sums-returns t c =
    let r = c.args.reach.now in
    either_told (step_weight r) (sums_by r) c.args.test (pieces_of c.args.taken.now) (pieces_of c.args.other.now) (sums_of c.chained-3.result)
    (sums_of c.among-sides.result) (sums_of c.chained.result) (sums_of c.chained-2.result)
    (sums_of c.sums_through-first.result) (sums_of c.sums_through-second.result) (sums_of c.taking.result) (sums_of c.taking-2.result) (sums_of c.taking-3.result)
    c.chained-3.ensures (c.taking-3.ensures ∙ ap taking c.branch_weight-branch.ensures) c.among-sides.ensures c.chained.ensures (c.taking.ensures ∙ ap taking c.skip_weight-skip.ensures)
    c.chained-2.ensures (c.taking-2.ensures ∙ ap taking c.jump_weight-jump.ensures) c.sums_through-first.ensures c.sums_through-second.ensures

pub repeat_sums-returns : goal.repeat_sums-returns
repeat_sums-returns t c =
    let r = c.args.reach.now in
    repeat_told (step_weight r) (sums_by r) c.args.turns (pieces_of c.args.head.now) c.args.test (pieces_of c.args.body.now) (sums_of c.turned.result)
    (sums_of c.chained-turn.result) (sums_of c.chained-2.result) (sums_of c.chained.result)
    (sums_of c.sums_through-start.result) (sums_of c.sums_through-inner.result) (sums_of c.taking.result) (sums_of c.taking-2.result)
    (sums_of c.chained-out.result) (sums_of c.taking-3.result) c.plus.result
    c.turned.ensures c.chained-turn.ensures c.chained-2.ensures (c.taking.ensures ∙ ap taking c.branch_weight-branch.ensures) c.chained.ensures
    (c.taking-2.ensures ∙ ap taking c.jump_weight-jump.ensures)
    c.chained-out.ensures c.taking-3.ensures (omega (arith, c.plus.ensures, c.branch_weight-branch.ensures, c.jump_weight-jump.ensures)) c.sums_through-start.ensures c.sums_through-inner.ensures

pub piece_sums-either_sums-requires : goal.piece_sums-either_sums-requires
piece_sums-either_sums-requires t c =
    let is = is_either c.args.piece.now c.in-Either.test c.in-Either.taken c.in-Either.other c.items-in-Either.result.now
    c.items-in-Either-2.result.now c.in-Either.is c.items-in-Either.ensures c.items-in-Either-2.ensures in
    (omega (arith, c.decreases, ap count is), c.requires)

pub piece_sums-returns-in-Either : goal.piece_sums-returns-in-Either
piece_sums-returns-in-Either t c =
    let is = is_either c.args.piece.now c.in-Either.test c.in-Either.taken c.in-Either.other c.items-in-Either.result.now
    c.items-in-Either-2.result.now c.in-Either.is c.items-in-Either.ensures c.items-in-Either-2.ensures in
    c.either_sums.ensures ∙ ap (λ ps. clipped_sums (summed (step_weight c.args.reach.now) (sums_by c.args.reach.now) ps)) (sym is)

pub piece_sums-repeat_sums-requires : goal.piece_sums-repeat_sums-requires
piece_sums-repeat_sums-requires t c =
    let is = is_repeat c.args.piece.now c.in-Repeat.turns c.in-Repeat.head c.in-Repeat.test c.in-Repeat.body c.items-in-Repeat.result.now
    c.items-in-Repeat-2.result.now c.in-Repeat.is c.items-in-Repeat.ensures c.items-in-Repeat-2.ensures in
    (omega (arith, c.decreases, ap count is), c.requires)

pub piece_sums-returns-in-Repeat : goal.piece_sums-returns-in-Repeat
piece_sums-returns-in-Repeat t c =
    let is = is_repeat c.args.piece.now c.in-Repeat.turns c.in-Repeat.head c.in-Repeat.test c.in-Repeat.body c.items-in-Repeat.result.now
    c.items-in-Repeat-2.result.now c.in-Repeat.is c.items-in-Repeat.ensures c.items-in-Repeat-2.ensures in
    c.repeat_sums.ensures ∙ ap (λ ps. clipped_sums (summed (step_weight c.args.reach.now) (sums_by c.args.reach.now) ps)) (sym is)

pub sums_through-piece_sums-requires : goal.sums_through-piece_sums-requires
sums_through-piece_sums-requires t c =
    (omega (arith, c.decreases, count_item c.args.pieces.now c.loop-piece.piece-index c.piece-item.result c.loop-piece-test.true c.piece-item.is), c.requires)

pub sums_through-loop-piece-preserved : goal.sums_through-loop-piece-preserved
sums_through-loop-piece-preserved t c =
    let r = c.args.reach.now in
    piece_more (step_weight r) (sums_by r) c.args.pieces.now c.loop-piece.piece-index c.piece-item.result (sums_of c.loop-piece.sums)
    (sums_of c.piece_sums.result) (sums_of c.chained-sums.result) c.loop-piece-test.true c.piece-item.is
    c.chained-sums.ensures c.piece_sums.ensures c.loop-piece.invariant
