use Rattle.std.proofs.Common.{◌≡◌, ◌+◌, ◌*◌, drop}
use Rattle.prem_asm.specs.PiecesOf.{piece_of, pieces_of}
use Rattle.prem_asm.proofs.PieceWords.{count}
use Rattle.prem_layout.specs.Stretch.Sums.{chained, summed}
use Rattle.prem_bounds.specs.ToldSums.{clipped_sums, step_weight, sums_by, sums_of}
use Rattle.prem_bounds.proofs.reach.+stretches.Given as goal

abbrev pub decreases-piece_sums : goal.decreases-piece_sums
decreases-piece_sums l = 3 * count (piece_of l.piece.now)

abbrev pub decreases-either_sums : goal.decreases-either_sums
decreases-either_sums l = 3 * (count (pieces_of l.taken.now) + count (pieces_of l.other.now)) + 2

abbrev pub decreases-repeat_sums : goal.decreases-repeat_sums
decreases-repeat_sums l = 3 * (count (pieces_of l.head.now) + count (pieces_of l.body.now)) + 2

abbrev pub decreases-sums_through : goal.decreases-sums_through
decreases-sums_through l = 3 * count (pieces_of l.pieces.now) + 1

-- the pieces so far, and behind them the rest
abbrev pub invariant-sums_through-loop-piece : goal.invariant-sums_through-loop-piece
invariant-sums_through-loop-piece l =
    clipped_sums (chained (sums_of l.sums) (summed (step_weight l.reach) (sums_by l.reach) (pieces_of (drop l.piece-index l.pieces))))
    ≡ clipped_sums (summed (step_weight l.reach) (sums_by l.reach) (pieces_of l.pieces))
