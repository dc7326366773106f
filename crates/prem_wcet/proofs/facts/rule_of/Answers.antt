use Rattle.std.proofs.Common.{◌*◌, ap}
use Rattle.prem_wcet.proofs.RuleBare.{bare_rule}
use Rattle.prem_wcet.proofs.facts.rule_of.Goals as goal

pub returns : goal.returns
returns c = record { access = ap (λ k. 2 * k) c.line_cost-miss.ensures.cost; other = c.line_cost-miss.ensures.cost; bare = bare_rule 256 }
