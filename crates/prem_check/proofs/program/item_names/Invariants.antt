use Rattle.std.proofs.Common.{◌≡◌, map, take}
use Rattle.prem_syntax.specs.SyntaxOf.{item_of}
use Rattle.prem_syntax.specs.Breaches.{item_names}
use Rattle.prem_check.proofs.program.item_names.Given as goal

abbrev pub invariant-loop-item : goal.invariant-loop-item
invariant-loop-item l = l.names ≡ item_names (map item_of (take l.item-index l.items))
