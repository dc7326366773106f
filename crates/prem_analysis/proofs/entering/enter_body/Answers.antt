use Rattle.std.proofs.Common.{◌≡◌, ap, ◌∙◌, arith, to_z, of_z}
use Rattle.prem_analysis.proofs.Prelude.{span_of, env_of, body_range, at_local, with_range, Span, ints, w64}
use Rattle.prem_analysis.proofs.InPlace.{set_again}
use Rattle.prem_analysis.proofs.entering.enter_body.Goals as goal

pub returns-clause-env : goal.returns-clause-env
returns-clause-env c =
    let k = c.args.l.now.number in let first = span_of c.args.first in let r = body_range first c.args.end in
    let least = c.requires.least in let greatest = c.requires.greatest in
    let end : to_z w64 (of_z w64 c.args.end) ≡ c.args.end = omega (arith, ints) in
    c.at_range-2.ensures ∙ ap (λ (s : Span). at_local k (with_range s) (env_of c.at_range.new.env.items))
    (c.body_range.ensures ∙ ap (body_range first) end) ∙ ap (at_local k (with_range r)) c.at_range.ensures
    ∙ set_again k r (span_of c.range_behind.result) (env_of c.args.env.now.items)
