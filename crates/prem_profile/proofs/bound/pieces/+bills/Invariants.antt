use Rattle.std.proofs.Common.{◌≡◌, ◌+◌, ◌*◌, ◌++◌, drop}
use Rattle.prem_asm.specs.Pieces.{size_of}
use Rattle.prem_asm.specs.PiecesOf.{piece_of, pieces_of}
use Rattle.prem_asm.proofs.PieceWords.{count}
use Rattle.prem_profile.specs.Bound.Pieces.{bill_from}
use Rattle.prem_profile.specs.Bound.Priced.{calls_by, costs_by}
use Rattle.prem_profile.proofs.bound.pieces.+bills.Given as goal

abbrev pub decreases-taken_side : goal.decreases-taken_side
decreases-taken_side l = 4 * count (pieces_of l.taken.now) + 2

abbrev pub decreases-other_side : goal.decreases-other_side
decreases-other_side l = 4 * count (pieces_of l.other.now) + 2

abbrev pub decreases-push_either : goal.decreases-push_either
decreases-push_either l = 4 * (count (pieces_of l.taken.now) + count (pieces_of l.other.now)) + 3

abbrev pub decreases-turn : goal.decreases-turn
decreases-turn l = 4 * (count (pieces_of l.head.now) + count (pieces_of l.body.now)) + 2

abbrev pub decreases-push_out : goal.decreases-push_out
decreases-push_out l = 4 * count (pieces_of l.head.now) + 2

abbrev pub decreases-push_repeat : goal.decreases-push_repeat
decreases-push_repeat l = 4 * (count (pieces_of l.head.now) + count (pieces_of l.body.now)) + 3

abbrev pub decreases-push_piece : goal.decreases-push_piece
decreases-push_piece l = 4 * count (piece_of l.piece.now)

abbrev pub decreases-push_pieces : goal.decreases-push_pieces
decreases-push_pieces l = 4 * count (pieces_of l.pieces.now) + 1

-- what is there, and what is left, which stands behind it
abbrev pub invariant-push_pieces-pieces : goal.invariant-push_pieces-pieces
invariant-push_pieces-pieces l = record {
  rest : l.bill.items ++ bill_from (costs_by l.prices) (calls_by l.prices) l.end (pieces_of (drop l.piece-index l.pieces))
      ≡ l.fn.bill.items ++ bill_from (costs_by l.prices) (calls_by l.prices) l.at (pieces_of l.pieces);
  place : l.end + size_of (pieces_of (drop l.piece-index l.pieces)) ≡ l.at + size_of (pieces_of l.pieces);
}
