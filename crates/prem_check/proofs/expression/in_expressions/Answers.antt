use Rattle.std.proofs.Common.{◌≡◌, ◌+◌, ◌∷◌, map, drop, ap, sym, ◌∙◌, arith}
use Rattle.std.proofs.lemmas.List.{drop_more}
use Rattle.prem_syntax.specs.SyntaxOf.{expression_of}
use Rattle.prem_syntax.specs.Rules.{first, first_of}
use Rattle.prem_syntax.specs.Breaches.{in_expression, in_expressions}
use Rattle.prem_names.specs.Scopes.{scope_of}
use Rattle.prem_check.specs.FoundOf.{found_of}
use Rattle.prem_check.proofs.Steps.{next}
use Rattle.prem_check.proofs.expression.in_expressions.Goals as goal

pub loop-e-preserved : goal.loop-e-preserved
loop-e-preserved c =
    let scope = scope_of c.args.names.now in
    let es = c.args.es.now in
    let i = c.loop-e.e-index in
    let e = c.e-item.result in
    let old = found_of c.loop-e.found in
    let left : drop i es ≡ e ∷ drop (i + 1) es = drop_more es i e (omega arith) ∙ ap (λ x. x ∷ drop (i + 1) es) (sym c.e-item.is) in
    next old (found_of c.earlier-found.result) (in_expression scope (expression_of e)) (in_expressions scope (map expression_of (drop (i + 1) es)))
    (c.earlier-found.ensures ∙ ap (first old) c.in_expression.ensures)
    ∙ ap (λ xs. first old (first_of (in_expressions scope (map expression_of xs)))) (sym left) ∙ c.loop-e.invariant
