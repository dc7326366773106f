use Rattle.std.proofs.Common.{◌≡◌, drop}
use Rattle.prem_syntax.specs.SyntaxOf.{statements_of}
use Rattle.prem_syntax.specs.Rules.{first, first_of}
use Rattle.prem_syntax.specs.Breaches.{in_statements}
use Rattle.prem_check.specs.FoundOf.{found_of}
use Rattle.prem_check.specs.AroundOf.{around_of}
use Rattle.prem_check.proofs.statement.+statements.Given as goal

abbrev pub invariant-in_statements-loop-stmt : goal.invariant-in_statements-loop-stmt
invariant-in_statements-loop-stmt l =
    first (found_of l.found) (first_of (in_statements (around_of l.around) (statements_of (drop l.stmt-index l.stmts)))) ≡ first_of (in_statements (around_of l.around) (statements_of l.stmts))
