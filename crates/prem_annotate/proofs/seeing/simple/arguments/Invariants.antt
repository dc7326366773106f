use Rattle.prem_annotate.proofs.Prelude.{env_of, sight_of, term_of, map, drop}
use Rattle.prem_annotate.proofs.Sights.{Passing}
use Rattle.prem_annotate.proofs.seeing.simple.arguments.Given as goal

abbrev pub invariant-loop-k : goal.invariant-loop-k
invariant-loop-k l = Passing l.f l.k (map term_of l.es) (map term_of (drop l.k l.es)) (env_of l.env.items) (env_of l.fn.env.items) (sight_of l.sight) (sight_of l.fn.sight)
