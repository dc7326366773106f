use Rattle.std.proofs.Common.{◌≡◌, map, drop}
use Rattle.prem_syntax.specs.SyntaxOf.{expression_of}
use Rattle.prem_syntax.specs.Rules.{first, first_of}
use Rattle.prem_syntax.specs.Breaches.{in_expressions}
use Rattle.prem_names.specs.Scopes.{scope_of}
use Rattle.prem_check.specs.FoundOf.{found_of}
use Rattle.prem_check.proofs.expression.in_expressions.Given as goal

abbrev pub invariant-loop-e : goal.invariant-loop-e
invariant-loop-e l =
    first (found_of l.found) (first_of (in_expressions (scope_of l.names) (map expression_of (drop l.e-index l.es)))) ≡ first_of (in_expressions (scope_of l.names) (map expression_of l.es))
