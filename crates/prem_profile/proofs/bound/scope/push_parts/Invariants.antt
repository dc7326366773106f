use Rattle.std.proofs.Common.{◌≡◌, ◌+◌, ◌++◌, drop}
use Rattle.prem_asm.specs.Pieces.{followed, size_of}
use Rattle.prem_asm.specs.PiecesOf.{pieces_of}
use Rattle.prem_wcet.specs.Outlines.{code_of}
use Rattle.prem_wcet.specs.PartsOf.{parts_of}
use Rattle.prem_profile.specs.Bound.Pieces.{bill_from}
use Rattle.prem_profile.specs.Bound.Priced.{calls_by, costs_by}
use Rattle.prem_profile.proofs.bound.scope.push_parts.Given as goal

-- what is there, and what is left, which stands behind it
abbrev pub invariant-loop-part : goal.invariant-loop-part
invariant-loop-part l = record {
  rest : l.bill.items ++ bill_from (costs_by l.prices) (calls_by l.prices) l.end (followed (code_of (parts_of (drop l.part-index l.parts))) (pieces_of l.last))
      ≡ l.fn.bill.items ++ bill_from (costs_by l.prices) (calls_by l.prices) l.at (followed (pieces_of l.before) (followed (code_of (parts_of l.parts)) (pieces_of l.last)));
  place : l.end + size_of (followed (code_of (parts_of (drop l.part-index l.parts))) (pieces_of l.last))
      ≡ l.at + size_of (followed (pieces_of l.before) (followed (code_of (parts_of l.parts)) (pieces_of l.last)));
}
