use Rattle.prem_machine.specs.Issue.Near.{IsNear}
use Rattle.prem_pair.proofs.Together.{BothSoFar}
use Rattle.prem_pair.proofs.both.Both.both_run.Given as goal

abbrev pub invariant-cycles : goal.invariant-cycles
invariant-cycles g l =
    BothSoFar l.first l.second l.requests l.task l.other l.until l.initial.self l.self l.left
    × (IsNear l.self.first.work.cache l.near.line × IsNear l.self.second.work.cache l.other_near.line)

abbrev pub decreases-cycles : goal.decreases-cycles
decreases-cycles g l = l.left
