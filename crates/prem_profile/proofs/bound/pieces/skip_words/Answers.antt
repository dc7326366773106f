use Rattle.std.proofs.Common.{sym}
use Rattle.prem_asm.proofs.PieceWords.{skip_some}
use Rattle.prem_profile.proofs.bound.pieces.skip_words.Goals as goal

pub returns-in-len1-up-clause-words : goal.returns-in-len1-up-clause-words
returns-in-len1-up-clause-words c = sym (skip_some c.args.other.now c.in-len1-up.len_at_least)
