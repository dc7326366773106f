use Rattle.std.proofs.Common.{◌∙◌}
use Rattle.prem_wcet.proofs.PieceCuts.{body_in_first}
use Rattle.prem_wcet.proofs.outline.body_in.Goals as goal

pub returns-in-len1-up : goal.returns-in-len1-up
returns-in-len1-up c = c.body_side.ensures ∙ body_in_first c.args.code.now c.piece-item.result c.in-len1-up.len_at_least c.piece-item.is
