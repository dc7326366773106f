use Rattle.prem_plant.proofs.OrderLemmas.RuleLaws.{kind_full, kind_cache_full}
use Rattle.prem_plant.proofs.order.laws.passes_bring_all_in.Goals as goal

pub returns-clause-set : goal.returns-clause-set
returns-clause-set c = kind_full

pub returns-clause-cache : goal.returns-clause-cache
returns-clause-cache c = kind_cache_full
