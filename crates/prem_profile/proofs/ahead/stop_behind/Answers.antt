use Rattle.std.proofs.Common.{◌≡◌, ◌≤◌, Some, length, get_or, subst, arith}
use Rattle.prem_list.specs.Sequence.{items_of}
use Rattle.prem_cycle.specs.State.{MachineState, rule_in}
use Rattle.prem_cycle.specs.FactsOf.{stop_of}
use Rattle.prem_cycle.specs.Inputs.{setup_of}
use Rattle.prem_machine.specs.declared.execution.Execution.{Execution}
use Rattle.prem_profile.specs.Ahead.{run_after}
use Rattle.prem_profile.proofs.ToldTurns.{all_booked, goes_limit, next_told, one_goes, stands_at, there, went_on}
use Rattle.prem_profile.proofs.ahead.stop_behind.Goals as goal

pub returns-then-ahead-len-clause-stop : goal.returns-then-ahead-len-clause-stop
returns-then-ahead-len-clause-stop g c =
    let a = c.args.ahead.now in
    let image = c.args.image.now in
    let input = c.args.input.now in
    let s = run_after image input c.args.at in
    let x : Execution = get_or a.told.items a.booked (record { pc = 0; cycles = 0; misses = 0; backs = 0 }) in
    let told = next_told image input c.args.at c.args.limit c.args.machine.now a c.requires.ahead x (omega (arith, c.if-ahead-len.true, c.len.ensures, a.told.ok.0))
    (there a.told.items a.booked x (record { pc = 0; cycles = 0; misses = 0; backs = 0 }) (omega (arith, c.if-ahead-len.true, c.len.ensures, a.told.ok.0))) in
    goes_limit c.args.at s (one_goes (rule_in (setup_of image)) (setup_of image) (items_of input.requests) told.task x.cycles s told.one) c.requires.now

pub returns-clause-ahead : goal.returns-clause-ahead
returns-clause-ahead g c =
    let a = c.args.ahead.now in
    let e = c.run_to.ensures in
    let le : length a.told.items ≤ a.booked = omega (arith, c.if-ahead-len.false, c.len.ensures, a.told.ok.0) in
    let rest = all_booked c.args.image.now c.args.input.now c.args.at c.args.limit c.args.machine.now a c.requires.ahead le in
    let within = rest.within in
    went_on c.args.image.now c.args.input.now c.args.at c.args.at c.args.limit c.args.machine.now c.run_to.new.self a c.requires.ahead le (omega arith) (omega (arith, within)) e.setup e.requests
    c.requires.now e.state

pub returns-clause-stop : goal.returns-clause-stop
returns-clause-stop g c =
    let a = c.args.ahead.now in
    let le : length a.told.items ≤ a.booked = omega (arith, c.if-ahead-len.false, c.len.ensures, a.told.ok.0) in
    subst (λ (s : MachineState). Some c.run_to.result ≡ stop_of c.args.at s)
    (stands_at c.args.image.now c.args.input.now c.args.at c.args.limit c.run_to.new.self a (returns-clause-ahead g c) le) c.run_to.ensures.stop
