use Rattle.prem_cycle.specs.State.{rule_in}
use Rattle.prem_machine.specs.States.{requests_in, setup_in, state_of}
use Rattle.prem_chart.proofs.Noted.{turn_is}
use Rattle.prem_chart.proofs.tracing.turn_end.Goals as goal

pub returns-clause-notes : goal.returns-clause-notes
returns-clause-notes g c =
    let m = c.args.machine.now in
    turn_is (rule_in (setup_in m)) (setup_in m) (requests_in m) (state_of m) c.args.at c.next_event.result c.max.result c.requires.now c.next_event.ensures.dull c.max.ensures
