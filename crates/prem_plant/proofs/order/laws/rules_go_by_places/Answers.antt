use Rattle.prem_plant.proofs.OrderLemmas.RuleLaws.{kind_members, kind_alike}
use Rattle.prem_plant.proofs.order.laws.rules_go_by_places.Goals as goal

pub returns-clause-members : goal.returns-clause-members
returns-clause-members c = kind_members

pub returns-clause-alike : goal.returns-clause-alike
returns-clause-alike c = kind_alike
