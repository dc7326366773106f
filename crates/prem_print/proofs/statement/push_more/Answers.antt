use Rattle.std.proofs.Common.{◌≡◌, ℕ, ◌+◌, List, ◌∷◌, map, drop, ap, sym, ◌∙◌, arith}
use Rattle.std.proofs.lemmas.List.{drop_more}
use Rattle.prem_syntax.specs.declared.tree.Expr.{Expr}
use Rattle.prem_syntax.specs.SyntaxOf.{expression_of}
use Rattle.prem_text.specs.declared.lexing.token.token.Mark.TheVariants as m
use Rattle.prem_text.specs.Lexing.Token.Lexeme.{mark}
use Rattle.prem_text.specs.Canonical.Canonical.{expression_lexemes, more_arguments}
use Rattle.prem_print.specs.Written.{written}
use Rattle.prem_print.proofs.Writing.{behind_part}
use Rattle.prem_print.proofs.statement.push_more.Goals as goal

pub loop-argument-preserved : goal.loop-argument-preserved
loop-argument-preserved c =
    let i = c.loop-argument.argument-index in
    let argument = c.argument-item.result in
    let left : drop i c.args.rest.now ≡ argument ∷ drop (i + 1) c.args.rest.now =
    drop_more c.args.rest.now i argument (omega arith) ∙ ap (λ x. x ∷ drop (i + 1) c.args.rest.now) (sym c.argument-item.is) in
    let own = expression_lexemes 1 (expression_of argument) in
    behind_part c.loop-argument.text.items c.push_expression.new.text.items (mark m.Comma ∷ own) _ _
    (c.in_ok-push_expression.ensures ∙ ap (λ (t : List ℕ). written t own) c.in_ok-push_mark.ensures)
    (ap (λ (all : List Expr). more_arguments (map expression_of all)) left)
    ∙ c.loop-argument.invariant
