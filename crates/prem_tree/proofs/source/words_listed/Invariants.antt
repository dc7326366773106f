use Rattle.std.proofs.Common.{◌≡◌, take}
use Rattle.prem_list.specs.Sequence.{items_of}
use Rattle.prem_tree.proofs.source.words_listed.Given as goal

abbrev pub invariant-loop-w : goal.invariant-loop-w
invariant-loop-w l = items_of l.list ≡ take l.w-index l.words
