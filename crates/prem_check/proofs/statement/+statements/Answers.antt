use Rattle.std.proofs.Common.{◌≡◌, ◌+◌, ◌∷◌, drop, ap, sym, ◌∙◌, arith}
use Rattle.std.proofs.lemmas.List.{drop_more}
use Rattle.prem_syntax.specs.SyntaxOf.{statement_of, statements_of}
use Rattle.prem_syntax.specs.Rules.{first, first_of}
use Rattle.prem_syntax.specs.Breaches.{in_statement, in_statements}
use Rattle.prem_check.specs.FoundOf.{found_of}
use Rattle.prem_check.specs.AroundOf.{around_of}
use Rattle.prem_check.proofs.Blocks.{block_is}
use Rattle.prem_check.proofs.Steps.{next}
use Rattle.prem_check.proofs.statement.+statements.Goals as goal

pub in_statement-returns-in-Block : goal.in_statement-returns-in-Block
in_statement-returns-in-Block t c =
    c.in_statements.ensures
    ∙ ap (λ s. first_of (in_statement (around_of c.args.around.now) s)) (sym (block_is c.args.stmt.now c.in-Block.at c.in-Block.body c.items.result.now c.in-Block.is c.items.ensures))

pub in_statements-loop-stmt-preserved : goal.in_statements-loop-stmt-preserved
in_statements-loop-stmt-preserved t c =
    let around = around_of c.args.around.now in
    let stmts = c.args.stmts.now in
    let i = c.loop-stmt.stmt-index in
    let stmt = c.stmt-item.result in
    let old = found_of c.loop-stmt.found in
    let left : drop i stmts ≡ stmt ∷ drop (i + 1) stmts = drop_more stmts i stmt (omega arith) ∙ ap (λ x. x ∷ drop (i + 1) stmts) (sym c.stmt-item.is) in
    next old (found_of c.earlier-found.result) (in_statement around (statement_of stmt)) (in_statements around (statements_of (drop (i + 1) stmts)))
    (c.earlier-found.ensures ∙ ap (first old) c.in_statement.ensures)
    ∙ ap (λ xs. first old (first_of (in_statements around (statements_of xs)))) (sym left) ∙ c.loop-stmt.invariant
