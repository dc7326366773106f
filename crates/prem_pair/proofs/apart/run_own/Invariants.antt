use Rattle.prem_machine.specs.Issue.Near.{IsNear}
use Rattle.prem_pair.proofs.Owning.{OwnSoFar}
use Rattle.prem_pair.proofs.apart.run_own.Given as goal

abbrev pub invariant-cycles : goal.invariant-cycles
invariant-cycles g l = OwnSoFar l.setting l.requests l.task l.until l.initial.parts l.parts l.left × IsNear l.parts.work.cache l.near.line

abbrev pub decreases-cycles : goal.decreases-cycles
decreases-cycles g l = l.left
