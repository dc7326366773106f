use Rattle.std.specs.Prelude.{◌||◌}
use Rattle.std.proofs.Common.{◌≡◌, ◌+◌, true, false, drop, ap, sym, ◌∙◌, arith}
use Rattle.prem_asm.specs.PiecesOf.{piece_of, pieces_of}
use Rattle.prem_asm.proofs.PieceWords.{count, is_either, is_repeat, count_item}
use Rattle.prem_profile.specs.Bound.Pieces.{has_call}
use Rattle.prem_profile.proofs.BillLemmas.Calling.{call_drop, or_none}
use Rattle.prem_profile.proofs.BillLemmas.Slots.{past}
use Rattle.prem_profile.proofs.bound.calling.+calling.Goals as goal

pub piece_calls-either_calls-requires : goal.piece_calls-either_calls-requires
piece_calls-either_calls-requires t c =
    let is = is_either c.args.piece.now c.in-Either.test c.in-Either.taken c.in-Either.other c.items.result.now
    c.items-in-Either.result.now c.in-Either.is c.items.ensures c.items-in-Either.ensures in
    omega (arith, c.decreases, ap count is)

pub piece_calls-returns-in-Either : goal.piece_calls-returns-in-Either
piece_calls-returns-in-Either t c =
    let is = is_either c.args.piece.now c.in-Either.test c.in-Either.taken c.in-Either.other c.items.result.now
    c.items-in-Either.result.now c.in-Either.is c.items.ensures c.items-in-Either.ensures in
    c.either_calls.ensures ∙ sym (ap has_call is ∙ or_none _)

pub piece_calls-either_calls-requires-in-Repeat : goal.piece_calls-either_calls-requires-in-Repeat
piece_calls-either_calls-requires-in-Repeat t c =
    let is = is_repeat c.args.piece.now c.in-Repeat.turns c.in-Repeat.head c.in-Repeat.test c.in-Repeat.body c.items-in-Repeat.result.now
    c.items-in-Repeat-2.result.now c.in-Repeat.is c.items-in-Repeat.ensures c.items-in-Repeat-2.ensures in
    omega (arith, c.decreases, ap count is)

pub piece_calls-returns-in-Repeat : goal.piece_calls-returns-in-Repeat
piece_calls-returns-in-Repeat t c =
    let is = is_repeat c.args.piece.now c.in-Repeat.turns c.in-Repeat.head c.in-Repeat.test c.in-Repeat.body c.items-in-Repeat.result.now
    c.items-in-Repeat-2.result.now c.in-Repeat.is c.items-in-Repeat.ensures c.items-in-Repeat-2.ensures in
    c.either_calls-in-Repeat.ensures ∙ sym (ap has_call is ∙ or_none _)

pub pieces_call-piece_calls-requires : goal.pieces_call-piece_calls-requires
pieces_call-piece_calls-requires t c =
    omega (arith, c.decreases, count_item c.args.pieces.now c.pieces.piece-index c.piece-item.result c.pieces-test.true c.piece-item.is)

pub pieces_call-returns-then-piece_calls : goal.pieces_call-returns-then-piece_calls
pieces_call-returns-then-piece_calls t c =
    let d = call_drop c.args.pieces.now c.pieces.piece-index c.piece-item.result c.pieces-test.true c.piece-item.is in
    let rest = has_call (pieces_of (drop (c.pieces.piece-index + 1) c.args.pieces.now)) in
    let calls : has_call (piece_of c.piece-item.result) ≡ true = sym c.piece_calls.ensures ∙ c.if-piece_calls.true in
    sym (ap (λ b. b || rest) calls) ∙ sym d ∙ c.pieces.invariant

pub pieces_call-pieces-preserved : goal.pieces_call-pieces-preserved
pieces_call-pieces-preserved t c =
    let d = call_drop c.args.pieces.now c.pieces.piece-index c.piece-item.result c.pieces-test.true c.piece-item.is in
    let rest = has_call (pieces_of (drop (c.pieces.piece-index + 1) c.args.pieces.now)) in
    let none : has_call (piece_of c.piece-item.result) ≡ false = sym c.piece_calls.ensures ∙ c.if-piece_calls.false in
    sym (ap (λ b. b || rest) none) ∙ sym d ∙ c.pieces.invariant

pub pieces_call-returns : goal.pieces_call-returns
pieces_call-returns t c =
    ap (λ ps. has_call (pieces_of ps)) (sym (past c.args.pieces.now c.pieces.piece-index (omega (arith, c.pieces-test.false)))) ∙ c.pieces.invariant
