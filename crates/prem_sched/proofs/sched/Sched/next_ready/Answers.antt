use Rattle.std.proofs.Common.{◌≡◌, sym, subst, arith}
use Rattle.std.proofs.lemmas.Grind.{common_steps}
use Rattle.prem_sched.specs.Schedule.{Before, IsSet, next_ready}
use Rattle.prem_sched.proofs.Choices.{next_ready_later, ready_kept}
use Rattle.prem_sched.proofs.sched.Sched.next_ready.Goals as goal

pub returns-clause-later : goal.returns-clause-later
returns-clause-later c =
    let set : IsSet c.args.self.now = subst IsSet c.self.view_is c.self.invariant in
    let e : c.tasks.least ≡ next_ready c.args.now c.args.self.now = grind (arith, common_steps) in
    subst (Before c.args.now) (sym e) (next_ready_later c.args.now c.args.self.now set.periods)

pub returns-clause-kept : goal.returns-clause-kept
returns-clause-kept c = λ k v later before.
    let set : IsSet c.args.self.now = subst IsSet c.self.view_is c.self.invariant in
    let e : c.tasks.least ≡ next_ready c.args.now c.args.self.now = grind (arith, common_steps) in
    ready_kept c.args.now v c.args.self.now k set.periods later (subst (Before v) e before)
