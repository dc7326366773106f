use Rattle.prem_machine.proofs.Going.{cycles_left}
use Rattle.prem_mail.proofs.Going.{GoesTo}
use Rattle.prem_mail.proofs.mail.Mail.run_to.Given as goal

abbrev pub invariant-cycles : goal.invariant-cycles
invariant-cycles g l = GoesTo l.limit l.initial.self l.self

abbrev pub decreases-cycles : goal.decreases-cycles
decreases-cycles g l = cycles_left l.limit l.self.mailed.state
