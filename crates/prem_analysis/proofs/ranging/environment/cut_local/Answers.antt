use Rattle.prem_analysis.proofs.Prelude.{span_of, cut_if_some}
use Rattle.prem_analysis.proofs.RangingLemmas.Locals.{at_local_within, at_local_past}
use Rattle.prem_analysis.proofs.ranging.environment.cut_local.Goals as goal

pub returns-then-k-env : goal.returns-then-k-env
returns-then-k-env c = at_local_within c.args.env.now c.args.k (cut_if_some c.args.op (span_of c.args.e))
    c.index-env-k.result c.cut_if_some.result c.if-k-env.true c.index-env-k.is c.cut_if_some.ensures

pub returns-else-k-env : goal.returns-else-k-env
returns-else-k-env c = at_local_past c.args.env.now c.args.k (cut_if_some c.args.op (span_of c.args.e)) c.if-k-env.false
