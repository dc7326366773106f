use Rattle.std.proofs.Common.{◌≡◌, map, take, drop}
use Rattle.prem_syntax.specs.SyntaxOf.{parameter_of}
use Rattle.prem_syntax.specs.Resolve.{parameter_names}
use Rattle.prem_syntax.specs.Rules.{first, first_of}
use Rattle.prem_syntax.specs.Breaches.{in_parameters}
use Rattle.prem_names.specs.Scopes.{scope_of, with_locals}
use Rattle.prem_check.specs.FoundOf.{found_of}
use Rattle.prem_check.specs.Taken.{taken_of}
use Rattle.prem_check.proofs.declaration.in_parameters.Given as goal

abbrev pub invariant-loop-param : goal.invariant-loop-param
invariant-loop-param l = record {
  found : first (found_of l.found) (first_of (in_parameters (taken_of l.items (scope_of l.names)) (map parameter_of (drop l.param-index l.params))))
      ≡ first_of (in_parameters (taken_of l.items (scope_of l.fn.names)) (map parameter_of l.params));
  names : scope_of l.names ≡ with_locals (scope_of l.fn.names) (parameter_names (map parameter_of (take l.param-index l.params)));
}
