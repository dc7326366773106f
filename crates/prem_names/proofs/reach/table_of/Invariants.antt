use Rattle.std.proofs.Common.{◌≡◌, map, take}
use Rattle.prem_syntax.specs.SyntaxOf.{function_of}
use Rattle.prem_names.specs.Scopes.{scope_of}
use Rattle.prem_names.specs.Reach.Reach.{callees_of_each}
use Rattle.prem_names.proofs.reach.table_of.Given as goal

abbrev pub invariant-loop-f : goal.invariant-loop-f
invariant-loop-f l = map (λ ks. ks.items) l.table.items ≡ callees_of_each (scope_of l.names).functions (map (λ f. function_of f.now) (take l.f-index l.functions))
