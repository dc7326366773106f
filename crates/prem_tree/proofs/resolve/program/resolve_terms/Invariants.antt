use Rattle.std.proofs.Common.{◌≡◌, map, take}
use Rattle.prem_list.specs.Sequence.{items_of}
use Rattle.prem_syntax.specs.SyntaxOf.{expression_of}
use Rattle.prem_syntax.specs.Resolve.{resolve_term}
use Rattle.prem_names.specs.Scopes.{scope_of}
use Rattle.prem_tree.specs.Resolve.ResolvedOf.{term_of}
use Rattle.prem_tree.proofs.resolve.program.resolve_terms.Given as goal

abbrev pub invariant-loop-e : goal.invariant-loop-e
invariant-loop-e l = map term_of (items_of l.terms) ≡ map (resolve_term (scope_of l.names)) (map expression_of (take l.e-index l.es))
