use Rattle.prem_annotate.proofs.Prelude.{env_of, sight_of, drop}
use Rattle.prem_annotate.proofs.Sights.{Walking}
use Rattle.prem_annotate.proofs.seeing.steps.+walking.Given as goal

abbrev pub invariant-walk_all-loop-s : goal.invariant-walk_all-loop-s
invariant-walk_all-loop-s l = Walking l.steps (drop l.s-index l.steps) (env_of l.env.items) (env_of l.fn.env.items) (sight_of l.sight) (sight_of l.fn.sight)
