use Rattle.std.proofs.Common.{map, drop}
use Rattle.prem_list.specs.Sequence.{items_of}
use Rattle.prem_syntax.specs.SyntaxOf.{item_of}
use Rattle.prem_syntax.specs.Literals.{ProgramHasWords}
use Rattle.prem_syntax.proofs.words.have_words.Given as goal

abbrev pub invariant-loop-i : goal.invariant-loop-i
invariant-loop-i l = ProgramHasWords (map item_of (drop l.i-index (items_of l.p.items))) → ProgramHasWords (map item_of (items_of l.p.items))
