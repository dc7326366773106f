use Rattle.std.proofs.Common.{◌≡◌, map, take, drop}
use Rattle.prem_syntax.specs.SyntaxOf.{local_of}
use Rattle.prem_syntax.specs.Resolve.{local_names}
use Rattle.prem_syntax.specs.Rules.{first, first_of}
use Rattle.prem_syntax.specs.Breaches.{in_locals}
use Rattle.prem_names.specs.Scopes.{scope_of, with_locals}
use Rattle.prem_check.specs.FoundOf.{found_of}
use Rattle.prem_check.specs.Taken.{taken_of}
use Rattle.prem_check.proofs.declaration.in_locals.Given as goal

abbrev pub invariant-loop-local : goal.invariant-loop-local
invariant-loop-local l = record {
  found : first (found_of l.found) (first_of (in_locals (taken_of l.items (scope_of l.names)) (scope_of l.names) (map local_of (drop l.local-index l.locals))))
      ≡ first_of (in_locals (taken_of l.items (scope_of l.fn.names)) (scope_of l.fn.names) (map local_of l.locals));
  names : scope_of l.names ≡ with_locals (scope_of l.fn.names) (local_names (map local_of (take l.local-index l.locals)));
}
