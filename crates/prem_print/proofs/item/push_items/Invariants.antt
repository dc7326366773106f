use Rattle.std.proofs.Common.{◌≡◌, drop, map}
use Rattle.prem_syntax.specs.SyntaxOf.{item_of}
use Rattle.prem_text.specs.Canonical.Canonical.{program_lexemes}
use Rattle.prem_print.specs.Written.{written}
use Rattle.prem_print.proofs.item.push_items.Given as goal

abbrev pub invariant-loop-item : goal.invariant-loop-item
invariant-loop-item l = written l.text.items (program_lexemes (map item_of (drop l.item-index l.items))) ≡ written l.initial.text.items (program_lexemes (map item_of l.items))
