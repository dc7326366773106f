use Rattle.std.proofs.Common.{◌≡◌, map, drop, ◌++◌}
use Rattle.prem_syntax.specs.SyntaxOf.{function_of, item_of}
use Rattle.prem_syntax.specs.Resolve.{functions_of}
use Rattle.prem_tree.proofs.resolve.program.functions_of.Given as goal

abbrev pub invariant-loop-item : goal.invariant-loop-item
invariant-loop-item l = map (λ f. function_of f.now) l.functions.items ++ functions_of (map item_of (drop l.item-index l.items)) ≡ functions_of (map item_of l.items)
