use Rattle.prem_annotate.proofs.Prelude.{env_of, sight_of, arith}
use Rattle.prem_annotate.proofs.Sights.{passed_next, passed_all}
use Rattle.prem_annotate.proofs.seeing.simple.arguments.Goals as goal

pub loop-k-preserved : goal.loop-k-preserved
loop-k-preserved c =
    passed_next c.args.f c.args.es.now c.loop-k.k c.index-es-k.result (env_of c.loop-k.env.items) (env_of c.argument.new.env.items)
    (env_of c.args.env.now.items) (sight_of c.loop-k.sight) (sight_of c.argument.new.sight) (sight_of c.args.sight.now)
    (omega arith) c.index-es-k.is c.loop-k.invariant c.in_ok-argument.ensures.env c.in_ok-argument.ensures.sight

pub returns-clause-env : goal.returns-clause-env
returns-clause-env c = c.loop-k.invariant.known

pub returns-clause-sight : goal.returns-clause-sight
returns-clause-sight c = passed_all c.args.f c.args.es.now c.loop-k.k (env_of c.loop-k.env.items) (env_of c.args.env.now.items)
    (sight_of c.loop-k.sight) (sight_of c.args.sight.now) (omega arith) c.loop-k.invariant
