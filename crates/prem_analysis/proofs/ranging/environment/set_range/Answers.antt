use Rattle.prem_analysis.proofs.Prelude.{span_of, with_range}
use Rattle.prem_analysis.proofs.RangingLemmas.Locals.{at_local_within, at_local_past}
use Rattle.prem_analysis.proofs.ranging.environment.set_range.Goals as goal

pub returns-then-k-env : goal.returns-then-k-env
returns-then-k-env c = at_local_within c.args.env.now c.args.k (with_range (span_of c.args.r)) c.index-env-k.result c.with_range.result c.if-k-env.true c.index-env-k.is c.with_range.ensures

pub returns-else-k-env : goal.returns-else-k-env
returns-else-k-env c = at_local_past c.args.env.now c.args.k (with_range (span_of c.args.r)) c.if-k-env.false
