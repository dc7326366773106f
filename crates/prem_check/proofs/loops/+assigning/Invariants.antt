use Rattle.std.proofs.Common.{◌≡◌, drop}
use Rattle.prem_syntax.specs.Name.{name_bytes}
use Rattle.prem_syntax.specs.SyntaxOf.{statements_of}
use Rattle.prem_syntax.specs.Breaches.{assigns_within}
use Rattle.prem_check.proofs.loops.+assigning.Given as goal

abbrev pub invariant-assigns_within-loop-stmt : goal.invariant-assigns_within-loop-stmt
invariant-assigns_within-loop-stmt l = assigns_within (name_bytes l.name) (statements_of l.stmts) ≡ assigns_within (name_bytes l.name) (statements_of (drop l.stmt-index l.stmts))
