use Rattle.std.proofs.Common.{◌≡◌, drop}
use Rattle.prem_asm.specs.PiecesOf.{pieces_of}
use Rattle.prem_layout.specs.Bounds.{first_call}
use Rattle.prem_bounds.proofs.bounds.first_call.Given as goal

abbrev pub invariant-loop-piece : goal.invariant-loop-piece
invariant-loop-piece l = first_call (pieces_of (drop l.piece-index l.pieces)) ≡ first_call (pieces_of l.pieces)
