use Rattle.prem_annotate.proofs.Prelude.{env_of, sight_of, local_of, term_of, map, drop}
use Rattle.prem_annotate.proofs.Arms.{Declaring}
use Rattle.prem_annotate.proofs.seeing.routine.declare_all.Given as goal

abbrev pub invariant-loop-i : goal.invariant-loop-i
invariant-loop-i l = Declaring (map local_of l.ls) (map local_of (drop l.i l.ls)) (map term_of l.es) (map term_of (drop l.i l.es))
    (env_of l.env.items) (env_of l.fn.env.items) (sight_of l.sight) (sight_of l.fn.sight)
