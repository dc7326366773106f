use Rattle.std.proofs.Common.{◌≡◌, map, drop, ◌++◌}
use Rattle.prem_syntax.specs.SyntaxOf.{global_of, item_of}
use Rattle.prem_syntax.specs.Resolve.{globals_of}
use Rattle.prem_check.proofs.program.globals_of.Given as goal

abbrev pub invariant-loop-item : goal.invariant-loop-item
invariant-loop-item l = map (λ g. global_of g.now) l.globals.items ++ globals_of (map item_of (drop l.item-index l.items)) ≡ globals_of (map item_of l.items)
