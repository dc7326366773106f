use Rattle.std.proofs.Common.{◌+◌, ◌++◌, ap, sym, ◌∙◌, arith, drop}
use Rattle.prem_asm.specs.Pieces.{size_of}
use Rattle.prem_asm.specs.PiecesOf.{pieces_of}
use Rattle.prem_asm.proofs.PieceWords.{count, is_either, is_repeat, count_item}
use Rattle.prem_wcet.proofs.Outcomes.{if_more, on_more}
use Rattle.prem_wcet.proofs.WalkSums.{size_drop}
use Rattle.prem_profile.specs.Bound.Pieces.{bill_from}
use Rattle.prem_profile.specs.Bound.Priced.{calls_by, costs_by}
use Rattle.prem_profile.proofs.BillLemmas.Pieces.{from_drop, gone}
use Rattle.prem_profile.proofs.bound.pieces.+bills.Goals as goal

pub push_piece-push_either-requires : goal.push_piece-push_either-requires
push_piece-push_either-requires t c =
    let is = is_either c.args.piece.now c.in-Either.test c.in-Either.taken c.in-Either.other c.items-in-Either.result.now
    c.items-in-Either-2.result.now c.in-Either.is c.items-in-Either.ensures c.items-in-Either-2.ensures in
    (omega (arith, c.decreases, ap count is), (c.requires.priced, omega (arith, c.requires.place, ap size_of is)))

pub push_piece-push_repeat-requires : goal.push_piece-push_repeat-requires
push_piece-push_repeat-requires t c =
    let is = is_repeat c.args.piece.now c.in-Repeat.turns c.in-Repeat.head c.in-Repeat.test c.in-Repeat.body c.items-in-Repeat.result.now
    c.items-in-Repeat-2.result.now c.in-Repeat.is c.items-in-Repeat.ensures c.items-in-Repeat-2.ensures in
    (omega (arith, c.decreases, ap count is), (c.requires.priced, omega (arith, c.requires.place, ap size_of is)))

pub push_piece-returns-in-Either-clause-bill : goal.push_piece-returns-in-Either-clause-bill
push_piece-returns-in-Either-clause-bill t c =
    let is = is_either c.args.piece.now c.in-Either.test c.in-Either.taken c.in-Either.other c.items-in-Either.result.now
    c.items-in-Either-2.result.now c.in-Either.is c.items-in-Either.ensures c.items-in-Either-2.ensures in
    on_more c.push_either.result (λ told. told ∙ ap (λ ps. c.args.bill.now.items ++ bill_from (costs_by c.args.prices.now) (calls_by c.args.prices.now) c.args.at ps) (sym is)) c.push_either.ensures.bill

pub push_piece-returns-in-Either-clause-end : goal.push_piece-returns-in-Either-clause-end
push_piece-returns-in-Either-clause-end t c =
    let is = is_either c.args.piece.now c.in-Either.test c.in-Either.taken c.in-Either.other c.items-in-Either.result.now
    c.items-in-Either-2.result.now c.in-Either.is c.items-in-Either.ensures c.items-in-Either-2.ensures in
    if_more c.push_either.result (λ end told. omega (arith, told, ap size_of is)) c.push_either.ensures.end

pub push_piece-returns-in-Repeat-clause-bill : goal.push_piece-returns-in-Repeat-clause-bill
push_piece-returns-in-Repeat-clause-bill t c =
    let is = is_repeat c.args.piece.now c.in-Repeat.turns c.in-Repeat.head c.in-Repeat.test c.in-Repeat.body c.items-in-Repeat.result.now
    c.items-in-Repeat-2.result.now c.in-Repeat.is c.items-in-Repeat.ensures c.items-in-Repeat-2.ensures in
    on_more c.push_repeat.result (λ told. told ∙ ap (λ ps. c.args.bill.now.items ++ bill_from (costs_by c.args.prices.now) (calls_by c.args.prices.now) c.args.at ps) (sym is)) c.push_repeat.ensures.bill

pub push_piece-returns-in-Repeat-clause-end : goal.push_piece-returns-in-Repeat-clause-end
push_piece-returns-in-Repeat-clause-end t c =
    let is = is_repeat c.args.piece.now c.in-Repeat.turns c.in-Repeat.head c.in-Repeat.test c.in-Repeat.body c.items-in-Repeat.result.now
    c.items-in-Repeat-2.result.now c.in-Repeat.is c.items-in-Repeat.ensures c.items-in-Repeat-2.ensures in
    if_more c.push_repeat.result (λ end told. omega (arith, told, ap size_of is)) c.push_repeat.ensures.end

pub push_pieces-push_piece-requires : goal.push_pieces-push_piece-requires
push_pieces-push_piece-requires t c =
    let left = size_drop c.args.pieces.now c.pieces.piece-index c.piece-item.result c.pieces-test.true c.piece-item.is in (
      omega (arith, c.decreases, count_item c.args.pieces.now c.pieces.piece-index c.piece-item.result c.pieces-test.true c.piece-item.is),
      (c.requires.priced, omega (arith, c.requires.place, c.pieces.invariant.place, left)),
    )

pub push_pieces-pieces-preserved : goal.push_pieces-pieces-preserved
push_pieces-pieces-preserved t c =
    let k = costs_by c.args.prices.now in
    let m = calls_by c.args.prices.now in
    let left = size_drop c.args.pieces.now c.pieces.piece-index c.piece-item.result c.pieces-test.true c.piece-item.is in
    record {
      rest =
          gone _ _ _ _ _ _ _ c.in_ok-end.ensures.bill (ap (λ n. bill_from k m n (pieces_of (drop (c.pieces.piece-index + 1) c.args.pieces.now))) c.in_ok-end.ensures.end)
          (from_drop k m c.args.pieces.now c.pieces.piece-index c.piece-item.result c.pieces.end c.pieces-test.true c.piece-item.is) c.pieces.invariant.rest;
      place = omega (arith, c.pieces.invariant.place, c.in_ok-end.ensures.end, left);
    }
