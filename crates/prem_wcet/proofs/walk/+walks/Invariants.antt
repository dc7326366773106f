use Rattle.std.proofs.Common.{◌≡◌, ◌+◌, ◌*◌, ◌≤◌, ◌^◌, drop}
use Rattle.prem_asm.specs.Pieces.{size_of}
use Rattle.prem_asm.specs.PiecesOf.{piece_of, pieces_of}
use Rattle.prem_asm.proofs.PieceWords.{count}
use Rattle.prem_bounds.specs.Scale.{clipped}
use Rattle.prem_wcet_laws.specs.Weights.{weighted_from}
use Rattle.prem_wcet.specs.Walks.{calls_by, weight_by}
use Rattle.prem_wcet.proofs.walk.+walks.Given as goal

abbrev pub decreases-walk_piece : goal.decreases-walk_piece
decreases-walk_piece l = 3 * count (piece_of l.piece.now)

abbrev pub decreases-walk_either : goal.decreases-walk_either
decreases-walk_either l = 3 * (count (pieces_of l.taken.now) + count (pieces_of l.other.now)) + 2

abbrev pub decreases-walk_repeat : goal.decreases-walk_repeat
decreases-walk_repeat l = 3 * (count (pieces_of l.head.now) + count (pieces_of l.body.now)) + 2

abbrev pub decreases-walk : goal.decreases-walk
decreases-walk l = 3 * count (pieces_of l.pieces.now) + 1

-- what is summed, and the weight of the rest, which stands behind it
abbrev pub invariant-walk-loop-piece : goal.invariant-walk-loop-piece
invariant-walk-loop-piece l =
    record {
      rest : clipped (l.sum + weighted_from (weight_by l.scale) (calls_by l.scale) l.end (pieces_of (drop l.piece-index l.pieces)))
          ≡ clipped (weighted_from (weight_by l.scale) (calls_by l.scale) l.at (pieces_of l.pieces));
      small : l.sum ≤ 2 ^ 41;
      place : l.end + size_of (pieces_of (drop l.piece-index l.pieces)) ≡ l.at + size_of (pieces_of l.pieces);
    }
