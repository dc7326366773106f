use Rattle.std.proofs.Common.{map, take}
use Rattle.prem_list.specs.Sequence.{items_of}
use Rattle.prem_syntax.specs.SyntaxOf.{item_of, program_of}
use Rattle.prem_syntax.specs.Resolve.{functions_of}
use Rattle.prem_names.specs.Scopes.{scope_of}
use Rattle.prem_tree.specs.Resolve.NamesOf.{AreBehind}
use Rattle.prem_tree.proofs.resolve.program.resolve.Given as goal

abbrev pub invariant-loop-item : goal.invariant-loop-item
invariant-loop-item l =
    AreBehind (scope_of l.names) (items_of l.routines) (functions_of (program_of l.p)) (map item_of (take l.item-index (items_of l.p.items)))
