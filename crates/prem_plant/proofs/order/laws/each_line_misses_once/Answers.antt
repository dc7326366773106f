use Rattle.prem_plant.specs.Order.Rules.{order_rule_of}
use Rattle.prem_plant.proofs.OrderLemmas.Lift.{few_misses}
use Rattle.prem_plant.proofs.OrderLemmas.RuleLaws.{kind_once, kind_cache_once}
use Rattle.prem_plant.proofs.order.laws.each_line_misses_once.Goals as goal

pub returns-clause-set : goal.returns-clause-set
returns-clause-set c = kind_once

pub returns-clause-cache : goal.returns-clause-cache
returns-clause-cache c = kind_cache_once

pub returns-clause-count : goal.returns-clause-count
returns-clause-count c = λ kind. few_misses (order_rule_of kind) (kind_cache_once kind)
