use Rattle.std.proofs.Common.{◌≤◌, ◌-◌, List, length, refl, ap, ◌∙◌, subst, arith}
use Rattle.prem_cycle.specs.State.{rule_in}
use Rattle.prem_cycle.specs.Cycle.{is_over}
use Rattle.prem_machine.specs.Execution.{ToldBehind}
use Rattle.prem_machine.specs.States.{Running, requests_in, setup_in, state_of}
use Rattle.prem_machine.specs.declared.execution.Execution.{Execution}
use Rattle.prem_profile.proofs.ToldTurns.{goes_ahead, stands_at}
use Rattle.prem_profile.proofs.ahead.go_ahead.Goals as goal

pub execute_to-requires-clause-going : goal.execute_to-requires-clause-going
execute_to-requires-clause-going g c =
    let a = c.args.ahead.now in
    let le : length a.told.items ≤ a.booked = omega (arith, c.if-ahead-len.false, c.len.ensures, a.told.ok.0) in
    ap is_over (stands_at c.args.image.now c.args.input.now c.args.at c.args.limit c.args.machine.now a c.requires.ahead le) ∙ c.requires.going

pub returns : goal.returns
returns g c =
    let a = c.args.ahead.now in
    let m = c.args.machine.now in
    let e = c.execute_to.ensures in
    let n = (state_of c.execute_to.new.self).now - (state_of m).now in
    let le : length a.told.items ≤ a.booked = omega (arith, c.if-ahead-len.false, c.len.ensures, a.told.ok.0) in
    goes_ahead c.args.image.now c.args.input.now c.args.at c.args.limit m c.execute_to.new.self a (record { told = c.execute_to.new.told; booked = 0 }) c.requires.ahead le refl
    (ap (λ (r : Running). setup_in r) e.new) (ap (λ (r : Running). requests_in r) e.new) c.requires.now (ap (λ (r : Running). state_of r) e.new) e.from e.within
    (subst (λ (xs : List Execution). ToldBehind (rule_in (setup_in m)) (setup_in m) (requests_in m) n (state_of m) xs c.execute_to.new.told.items) c.clear.ensures.items e.told)
