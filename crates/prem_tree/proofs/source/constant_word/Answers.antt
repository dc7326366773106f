use Rattle.std.proofs.Common.{rules}
use Rattle.prem_tree.specs.Constant.{constant_word}
use Rattle.prem_tree.proofs.source.constant_word.Goals as goal

pub returns : goal.returns
unfolding constant_word
returns c = search rules
