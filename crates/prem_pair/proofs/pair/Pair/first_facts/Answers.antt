use Rattle.prem_machine.proofs.Telling.{report_told}
use Rattle.prem_pair.proofs.pair.Pair.first_facts.Goals as goal

pub returns : goal.returns
returns g c = rw (← c.self.view_is) (report_told _ _ c.self.inside.both.first c.self.invariant.stands.first)
