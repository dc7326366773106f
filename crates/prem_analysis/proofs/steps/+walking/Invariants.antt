use Rattle.prem_analysis.proofs.Prelude.{site_of, env_of, seen_of, drop}
use Rattle.prem_analysis.proofs.Behind.{Walking}
use Rattle.prem_analysis.proofs.steps.+walking.Given as goal

abbrev pub invariant-walk_all-loop-s : goal.invariant-walk_all-loop-s
invariant-walk_all-loop-s l = Walking (site_of l.site) l.around l.steps (drop l.s-index l.steps) (env_of l.env.items) (env_of l.fn.env.items) (seen_of l.seen) (seen_of l.fn.seen)
