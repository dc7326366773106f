use Rattle.std.proofs.Common.{◌≡◌, map, drop}
use Rattle.prem_list.specs.Sequence.{items_of}
use Rattle.prem_syntax.specs.SyntaxOf.{item_of, program_of}
use Rattle.prem_lint.specs.Places.{named_place}
use Rattle.prem_lint.proofs.places.named_place.Given as goal

abbrev pub invariant-loop-item : goal.invariant-loop-item
invariant-loop-item l = named_place l.name (map item_of (drop l.item-index (items_of l.p.items))) ≡ named_place l.name (program_of l.p)
