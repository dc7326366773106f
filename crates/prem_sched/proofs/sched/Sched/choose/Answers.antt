use Rattle.std.proofs.Common.{◌≡◌, subst, arith, All}
use Rattle.std.proofs.lemmas.Grind.{common_steps}
use Rattle.prem_sched.specs.declared.sched.Choice.{Choice}
use Rattle.prem_sched.specs.declared.sched.Choice.TheVariants.{Run, Idle, Finished}
use Rattle.prem_sched.specs.Schedule.{IsChoice, IsDone, IsSet, choice}
use Rattle.prem_sched.proofs.Choices.{choice_means, choice_done}
use Rattle.prem_sched.proofs.sched.Sched.choose.Goals as goal

pub returns-then-is_ready-clause-meaning : goal.returns-then-is_ready-clause-meaning
returns-then-is_ready-clause-meaning c =
    let set : IsSet c.args.self.now = subst IsSet c.self.view_is c.self.invariant in
    let e : choice c.args.now c.args.self.now ≡ Run c.loop-k.k = grind (arith, common_steps) in
    let P : Choice → Type 0 = IsChoice c.args.now c.args.self.now in
    subst P e (choice_means c.args.now c.args.self.now set)

pub returns-in-Some-clause-meaning : goal.returns-in-Some-clause-meaning
returns-in-Some-clause-meaning c =
    let set : IsSet c.args.self.now = subst IsSet c.self.view_is c.self.invariant in
    let e : choice c.args.now c.args.self.now ≡ Idle c.in-Some.until = grind (arith, common_steps) in
    let P : Choice → Type 0 = IsChoice c.args.now c.args.self.now in
    subst P e (choice_means c.args.now c.args.self.now set)

pub returns-in-Some-clause-finished : goal.returns-in-Some-clause-finished
returns-in-Some-clause-finished c = λ (done : All IsDone c.args.self.now).
    let e : choice c.args.now c.args.self.now ≡ Idle c.in-Some.until = grind (arith, common_steps) in
    let f = choice_done c.args.now c.args.self.now done in
    cc

pub returns-in-None-clause-meaning : goal.returns-in-None-clause-meaning
returns-in-None-clause-meaning c =
    let set : IsSet c.args.self.now = subst IsSet c.self.view_is c.self.invariant in
    let e : choice c.args.now c.args.self.now ≡ Finished = grind (arith, common_steps) in
    let P : Choice → Type 0 = IsChoice c.args.now c.args.self.now in
    subst P e (choice_means c.args.now c.args.self.now set)
