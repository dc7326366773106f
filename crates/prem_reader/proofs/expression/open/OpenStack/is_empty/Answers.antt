use Rattle.std.proofs.Common.{◌∙◌}
use Rattle.prem_reader.proofs.ExpressionLemmas.Opened.{none_open}
use Rattle.prem_reader.proofs.expression.open.OpenStack.is_empty.Goals as goal

pub returns : goal.returns
returns c = let all = c.args.self.now.all in c.is_empty.ensures ∙ none_open all.items all.len all.ok.0
