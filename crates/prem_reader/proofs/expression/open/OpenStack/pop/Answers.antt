use Rattle.prem_reader.proofs.ExpressionLemmas.Opened.{innermost}
use Rattle.prem_reader.proofs.expression.open.OpenStack.pop.Goals as goal

pub returns-clause-some : goal.returns-clause-some
returns-clause-some c = innermost c.args.self.now.all.items c.pop.new.self.items c.pop.result c.pop.ensures.items
