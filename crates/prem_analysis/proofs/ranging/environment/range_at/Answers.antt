use Rattle.prem_analysis.proofs.RangingLemmas.Locals.{range_at_within, range_at_past}
use Rattle.std.proofs.Common.{sym, ◌∙◌}
use Rattle.prem_analysis.proofs.ranging.environment.range_at.Goals as goal

pub returns-then-k-env : goal.returns-then-k-env
returns-then-k-env c = range_at_within c.args.env.now c.args.k c.index-env-k.result c.if-k-env.true

pub returns-else-k-env : goal.returns-else-k-env
returns-else-k-env c = c.whole_range.ensures ∙ sym (range_at_past c.args.env.now c.args.k c.if-k-env.false)
