use Rattle.std.proofs.Common.{ap, ◌∙◌}
use Rattle.prem_text.specs.Grammar.Expression.{bottom}
use Rattle.prem_reader.specs.Expression.StateOf.{open_in}
use Rattle.prem_reader.proofs.ExpressionLemmas.Opened.{opened_last}
use Rattle.prem_reader.proofs.expression.open.OpenStack.push.Goals as goal

pub returns : goal.returns
returns c = ap (open_in bottom) c.in_ok-push.ensures.items ∙ opened_last bottom c.args.self.now.all.items c.args.inner
