use Rattle.std.proofs.Common.{◌≡◌, subst, sym, arith}
use Rattle.std.proofs.lemmas.Grind.{common_steps}
use Rattle.prem_sched.specs.Schedule.{IsSet, starts_of}
use Rattle.prem_sched.proofs.Choices.{starts_set}
use Rattle.prem_sched.proofs.sched.Sched.new.Goals as goal

pub invariant_of-result : goal.invariant_of-result
invariant_of-result c =
    let e : c.loop-period.started.items ≡ starts_of c.args.tasks.now = grind (arith, common_steps) in
    subst IsSet (sym e) (starts_set c.args.tasks.now c.requires.positive c.requires.count)
