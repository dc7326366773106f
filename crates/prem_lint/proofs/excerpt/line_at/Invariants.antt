use Rattle.std.proofs.Common.{◌≡◌, length}
use Rattle.prem_line.specs.Lines.{lines_of}
use Rattle.prem_lint.specs.Spots.{line_from}
use Rattle.prem_lint.proofs.excerpt.line_at.Given as goal

abbrev pub invariant-loop-rest : goal.invariant-loop-rest
invariant-loop-rest l = line_from l.left (lines_of l.rest) ≡ line_from l.n (lines_of l.text)

abbrev pub decreases-loop-rest : goal.decreases-loop-rest
decreases-loop-rest l = length l.rest
