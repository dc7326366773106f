use Rattle.std.proofs.Common.{◌≡◌, ◌+◌, ◌*◌, drop}
use Rattle.prem_asm.specs.PiecesOf.{piece_of, pieces_of}
use Rattle.prem_asm.proofs.PieceWords.{count}
use Rattle.prem_profile.specs.Bound.Pieces.{has_call}
use Rattle.prem_profile.proofs.bound.calling.+calling.Given as goal

abbrev pub decreases-either_calls : goal.decreases-either_calls
decreases-either_calls l = 3 * (count (pieces_of l.first.now) + count (pieces_of l.second.now)) + 2

abbrev pub decreases-piece_calls : goal.decreases-piece_calls
decreases-piece_calls l = 3 * count (piece_of l.piece.now)

abbrev pub decreases-pieces_call : goal.decreases-pieces_call
decreases-pieces_call l = 3 * count (pieces_of l.pieces.now) + 1

-- what is left calls a function where all do
abbrev pub invariant-pieces_call-pieces : goal.invariant-pieces_call-pieces
invariant-pieces_call-pieces l = has_call (pieces_of (drop l.piece-index l.pieces)) ≡ has_call (pieces_of l.pieces)
