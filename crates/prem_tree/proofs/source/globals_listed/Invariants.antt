use Rattle.std.proofs.Common.{◌≡◌, take, map}
use Rattle.prem_list.specs.Sequence.{items_of}
use Rattle.prem_tree.proofs.source.globals_listed.Given as goal

abbrev pub invariant-loop-words : goal.invariant-loop-words
invariant-loop-words l = map items_of (items_of l.lists) ≡ map (λ words. words.items) (take l.words-index l.globals)
