use Rattle.std.proofs.Common.{◌≡◌, ◌+◌, drop}
use Rattle.prem_asm.specs.Pieces.{followed, size_of}
use Rattle.prem_asm.specs.PiecesOf.{pieces_of}
use Rattle.prem_bounds.specs.Scale.{clipped}
use Rattle.prem_wcet_laws.specs.Weights.{weighted_from}
use Rattle.prem_wcet.specs.Outlines.{code_of}
use Rattle.prem_wcet.specs.PartsOf.{parts_of}
use Rattle.prem_wcet.specs.Walks.{calls_by, weight_by}
use Rattle.prem_wcet.proofs.scope.walk_parts.Given as goal

-- what is summed, and the weight of the rest, which stands behind it
abbrev pub invariant-loop-part : goal.invariant-loop-part
invariant-loop-part l =
    record {
      rest : clipped (l.all.sum + weighted_from (weight_by l.scale) (calls_by l.scale) l.all.end (followed (code_of (parts_of (drop l.part-index l.parts))) (pieces_of l.last))) ≡
          clipped (weighted_from (weight_by l.scale) (calls_by l.scale) l.at (followed (pieces_of l.before) (followed (code_of (parts_of l.parts)) (pieces_of l.last))));
      place : l.all.end + size_of (followed (code_of (parts_of (drop l.part-index l.parts))) (pieces_of l.last))
          ≡ l.at + size_of (followed (pieces_of l.before) (followed (code_of (parts_of l.parts)) (pieces_of l.last)));
    }
