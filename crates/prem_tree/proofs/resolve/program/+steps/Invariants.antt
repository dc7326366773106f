use Rattle.std.proofs.Common.{take}
use Rattle.prem_list.specs.Sequence.{items_of}
use Rattle.prem_syntax.specs.SyntaxOf.{statements_of}
use Rattle.prem_syntax.specs.Resolve.{resolve_statements, loops_within}
use Rattle.prem_names.specs.Scopes.{scope_of}
use Rattle.prem_tree.specs.Resolve.ResolvedOf.{AreSteps}
use Rattle.prem_tree.proofs.resolve.program.+steps.Given as goal

abbrev pub invariant-resolve_stmts-loop-stmt : goal.invariant-resolve_stmts-loop-stmt
invariant-resolve_stmts-loop-stmt l =
    AreSteps (items_of l.steps) (λ turns n. resolve_statements (scope_of l.names) turns n (statements_of (take l.stmt-index l.stmts))) (loops_within (statements_of (take l.stmt-index l.stmts)))
