use Rattle.std.proofs.Common.{◌≡◌, map, take}
use Rattle.prem_syntax.specs.SyntaxOf.{parameter_of}
use Rattle.prem_syntax.specs.Resolve.{parameter_names}
use Rattle.prem_names.specs.Scopes.{scope_of, with_locals}
use Rattle.prem_tree.proofs.resolve.program.add_params.Given as goal

abbrev pub invariant-loop-param : goal.invariant-loop-param
invariant-loop-param l = scope_of l.names ≡ with_locals (scope_of l.fn.names) (parameter_names (map parameter_of (take l.param-index l.params)))
