use Rattle.prem_analysis.proofs.RangingLemmas.Locals.{at_local_within, at_local_past}
use Rattle.prem_ranges.specs.Environment.{any_again}
use Rattle.prem_analysis.proofs.ranging.environment.loosen.Goals as goal

pub returns-then-k-env : goal.returns-then-k-env
returns-then-k-env c = at_local_within c.args.env.now c.args.k any_again c.index-env-k.result c.any_again.result c.if-k-env.true c.index-env-k.is c.any_again.ensures

pub returns-else-k-env : goal.returns-else-k-env
returns-else-k-env c = at_local_past c.args.env.now c.args.k any_again c.if-k-env.false
