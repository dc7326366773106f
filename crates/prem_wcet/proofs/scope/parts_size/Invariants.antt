use Rattle.std.proofs.Common.{◌≡◌, ◌+◌, drop}
use Rattle.prem_asm.specs.Pieces.{size_of}
use Rattle.prem_wcet.specs.Outlines.{code_of}
use Rattle.prem_wcet.specs.PartsOf.{parts_of}
use Rattle.prem_wcet.proofs.scope.parts_size.Given as goal

-- what is counted, and the rest
abbrev pub invariant-loop-part : goal.invariant-loop-part
invariant-loop-part l = l.sum + size_of (code_of (parts_of (drop l.part-index l.parts))) ≡ size_of (code_of (parts_of l.parts))
