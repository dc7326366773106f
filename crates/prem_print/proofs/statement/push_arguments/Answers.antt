use Rattle.std.proofs.Common.{◌≡◌, ◌-◌, ℕ, List, ◌∷◌, OnOk, length, map, take, drop, ap, sym, subst, ◌∙◌, arith}
use Rattle.std.proofs.lemmas.List.{drop_more, take_rest}
use Rattle.prem_syntax.specs.declared.tree.Expr.{Expr}
use Rattle.prem_syntax.specs.SyntaxOf.{expression_of}
use Rattle.prem_text.specs.Canonical.Canonical.{expression_lexemes, argument_lexemes}
use Rattle.prem_print.proofs.Writing.{behind_part}
use Rattle.prem_print.proofs.statement.push_arguments.Goals as goal

pub returns-in_ok-push_expression-in-len1-up : goal.returns-in_ok-push_expression-in-len1-up
returns-in_ok-push_expression-in-len1-up c =
    let given = c.args.args.now in
    let first = c.first-item.result in
    let rest = take (length given - 1) (drop 1 given) in
    let whole : rest ≡ drop 1 given = take_rest given 1 in
    let parts : given ≡ first ∷ rest = drop_more given 0 first (omega (arith, c.in-len1-up.len_at_least)) ∙ (λ i. sym c.first-item.is i ∷ sym whole i) in
    subst (λ (t : List ℕ). OnOk c.push_more.result (c.push_more.new.text.items ≡ t))
    (behind_part c.args.text.now.items c.push_expression.new.text.items (expression_lexemes 1 (expression_of first)) _ _
    c.in_ok-push_expression-in-len1-up.ensures (ap (λ (all : List Expr). argument_lexemes (map expression_of all)) parts))
    c.push_more.ensures
