use Rattle.std.proofs.Common.{◌≡◌, ◌++◌, drop}
use Rattle.prem_syntax.specs.SyntaxOf.{statements_of}
use Rattle.prem_syntax.specs.Breaches.{callees_within}
use Rattle.prem_names.specs.Scopes.{scope_of}
use Rattle.prem_names.proofs.reach.+calling.Given as goal

abbrev pub invariant-add_all_callees-loop-stmt : goal.invariant-add_all_callees-loop-stmt
invariant-add_all_callees-loop-stmt l =
    l.calls.items ++ callees_within (scope_of l.names).functions (statements_of (drop l.stmt-index l.stmts)) ≡ l.fn.calls.items ++ callees_within (scope_of l.names).functions (statements_of l.stmts)
