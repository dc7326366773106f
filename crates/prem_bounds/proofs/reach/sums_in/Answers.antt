use Rattle.std.proofs.Common.{◌∙◌}
use Rattle.prem_bounds.proofs.Reaches.{in_none, in_some}
use Rattle.prem_bounds.proofs.reach.sums_in.Goals as goal

pub returns-in-Some : goal.returns-in-Some
returns-in-Some c = let l = c.in-Some.ensures.lookup in in_some c.args.all.now c.args.n c.in-Some.sums.now l.3.0 l.1

pub returns-in-None : goal.returns-in-None
returns-in-None c = let l = c.in-None.ensures.lookup in c.taking.ensures ∙ in_none c.args.all.now c.args.n l.3
