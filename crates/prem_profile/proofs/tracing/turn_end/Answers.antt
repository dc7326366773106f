use Rattle.std.proofs.Common.{◌+◌, refl}
use Rattle.prem_cycle.specs.State.{rule_in}
use Rattle.prem_machine.specs.States.{requests_in, setup_in, state_of}
use Rattle.prem_profile.proofs.Turns.{next_seen, turn_is}
use Rattle.prem_profile.proofs.tracing.turn_end.Goals as goal

pub returns-then-may_pass-clause-seen : goal.returns-then-may_pass-clause-seen
returns-then-may_pass-clause-seen g c =
    let m = c.args.machine.now in
    turn_is (rule_in (setup_in m)) (setup_in m) (requests_in m) (state_of m) c.args.at c.next_event.result c.max.result c.requires.now (c.may_pass.ensures c.if-may_pass.true) c.next_event.ensures.dull
    c.max.ensures

pub returns-clause-seen : goal.returns-clause-seen
returns-clause-seen g c =
    let m = c.args.machine.now in
    next_seen (rule_in (setup_in m)) (setup_in m) (requests_in m) (state_of m) c.args.at (c.args.at + 1) refl
