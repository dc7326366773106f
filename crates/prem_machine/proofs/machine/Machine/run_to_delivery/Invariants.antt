use Rattle.prem_machine.proofs.Going.{cycles_left}
use Rattle.prem_machine.specs.Deliveries.{RunsSilently}
use Rattle.prem_machine.proofs.machine.Machine.run_to_delivery.Given as goal

abbrev pub invariant-cycles : goal.invariant-cycles
invariant-cycles g l = RunsSilently l.limit l.transfers l.initial.self l.self

abbrev pub decreases-cycles : goal.decreases-cycles
decreases-cycles g l = cycles_left l.limit l.self.state
