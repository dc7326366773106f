use Rattle.prem_analysis.proofs.RangingLemmas.Locals.{put_within, at_local_past}
use Rattle.prem_analysis.specs.Ranging.View.{known_of}
use Rattle.prem_analysis.proofs.ranging.saves.put.Goals as goal

pub returns-then-s-env : goal.returns-then-s-env
returns-then-s-env c = put_within c.args.env.now c.args.s.number c.args.s.known c.if-s-env.true

pub returns-else-s-env : goal.returns-else-s-env
returns-else-s-env c = at_local_past c.args.env.now c.args.s.number (λ l. known_of c.args.s.known) c.if-s-env.false
