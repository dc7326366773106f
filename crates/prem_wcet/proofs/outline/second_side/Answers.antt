use Rattle.std.proofs.Common.{◌∙◌}
use Rattle.prem_wcet.proofs.PieceCuts.{second_side_first}
use Rattle.prem_wcet.proofs.outline.second_side.Goals as goal

pub returns-in-len1-up : goal.returns-in-len1-up
returns-in-len1-up c = c.other_side.ensures ∙ second_side_first c.args.code.now c.piece-item.result c.in-len1-up.len_at_least c.piece-item.is
