use Rattle.prem_analysis.proofs.Prelude.{known_of, any_of, with_range, Span, Int, ap, sym, ◌∙◌}
use Rattle.prem_analysis.proofs.RangingLemmas.Locals.{known_at_within, known_at_past}
use Rattle.prem_analysis.proofs.ranging.saves.known_at.Goals as goal

pub returns-then-k-env : goal.returns-then-k-env
returns-then-k-env c = ap known_of c.index-env-k.is ∙ known_at_within c.args.env.now c.args.k c.index-env-k.result c.if-k-env.true

pub returns-else-k-env : goal.returns-else-k-env
returns-else-k-env c = ap (λ (r : Span). with_range r (any_of Int)) c.whole_range.ensures ∙ sym (known_at_past c.args.env.now c.args.k c.if-k-env.false)
