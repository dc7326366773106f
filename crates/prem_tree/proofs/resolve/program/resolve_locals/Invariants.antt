use Rattle.std.proofs.Common.{◌≡◌, ◌++◌, map, take, drop}
use Rattle.prem_list.specs.Sequence.{items_of}
use Rattle.prem_syntax.specs.SyntaxOf.{local_of}
use Rattle.prem_syntax.specs.Resolve.{resolve_locals, local_names}
use Rattle.prem_names.specs.Scopes.{scope_of, with_locals}
use Rattle.prem_tree.specs.Resolve.ResolvedOf.{term_of}
use Rattle.prem_tree.proofs.resolve.program.resolve_locals.Given as goal

abbrev pub invariant-loop-local : goal.invariant-loop-local
invariant-loop-local l = record {
  terms : map term_of (items_of l.terms) ++ resolve_locals (scope_of l.names) (map local_of (drop l.local-index l.locals)) ≡ resolve_locals (scope_of l.fn.names) (map local_of l.locals);
  names : scope_of l.names ≡ with_locals (scope_of l.fn.names) (local_names (map local_of (take l.local-index l.locals)));
}
