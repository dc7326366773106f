use Rattle.std.proofs.Common.{◌≡◌, map, take}
use Rattle.prem_tree.specs.Constant.{constant_word}
use Rattle.prem_tree.proofs.source.constant_words.Given as goal

abbrev pub invariant-loop-z : goal.invariant-loop-z
invariant-loop-z l = l.words.items ≡ map (constant_word l.ty) (take l.z-index l.constants)
