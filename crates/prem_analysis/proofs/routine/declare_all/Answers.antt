use Rattle.prem_analysis.proofs.Prelude.{site_of, env_of, seen_of, local_of, term_of, List, map, drop, ap, arith, drop_all}
use Rattle.prem_analysis.proofs.Behind.{declared_next, no_terms}
use Rattle.prem_tree.specs.declared.resolve.resolved.Term.{Term}
use Rattle.prem_analysis.proofs.routine.declare_all.Goals as goal

pub loop-i-preserved : goal.loop-i-preserved
loop-i-preserved c =
    declared_next (site_of c.args.site.now) c.args.ls.now c.args.es.now c.loop-i.i c.index-ls-i.result c.index-es-i.result (env_of c.loop-i.env.items)
    (env_of c.declare.new.env.items) (env_of c.args.env.now.items) (seen_of c.loop-i.seen) (seen_of c.declare.new.seen) (seen_of c.args.seen.now)
    (omega arith) (omega arith) c.index-ls-i.is c.index-es-i.is c.loop-i.invariant c.in_ok-declare.ensures.env c.in_ok-declare.ensures.seen

pub returns-clause-env : goal.returns-clause-env
returns-clause-env c =
    (no_terms (site_of c.args.site.now) (map local_of c.args.ls.now) (map local_of (drop c.loop-i.i c.args.ls.now)) (map term_of c.args.es.now)
    (map term_of (drop c.loop-i.i c.args.es.now)) (env_of c.loop-i.env.items) (env_of c.args.env.now.items) (seen_of c.loop-i.seen)
    (seen_of c.args.seen.now)
    (ap (λ (l : List Term). map term_of l) (drop_all c.loop-i.i c.args.es.now (omega arith))) c.loop-i.invariant).0

pub returns-clause-seen : goal.returns-clause-seen
returns-clause-seen c =
    (no_terms (site_of c.args.site.now) (map local_of c.args.ls.now) (map local_of (drop c.loop-i.i c.args.ls.now)) (map term_of c.args.es.now)
    (map term_of (drop c.loop-i.i c.args.es.now)) (env_of c.loop-i.env.items) (env_of c.args.env.now.items) (seen_of c.loop-i.seen)
    (seen_of c.args.seen.now)
    (ap (λ (l : List Term). map term_of l) (drop_all c.loop-i.i c.args.es.now (omega arith))) c.loop-i.invariant).1
