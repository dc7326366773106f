use Rattle.std.proofs.Common.{◌≡◌, ◌+◌, List, ◌∷◌, drop, OnOk, ap, sym, subst, ◌∙◌, arith}
use Rattle.std.proofs.lemmas.List.{drop_more}
use Rattle.prem_syntax.specs.declared.tree.Stmt.{Stmt}
use Rattle.prem_syntax.specs.Syntax.{Statement}
use Rattle.prem_syntax.specs.SyntaxOf.{statement_of, statements_of}
use Rattle.prem_text.specs.Canonical.Canonical.{statement_lexemes, statements_lexemes}
use Rattle.prem_print.specs.Written.{written}
use Rattle.prem_print.proofs.Blocks.{block_is}
use Rattle.prem_print.proofs.Writing.{behind_part}
use Rattle.prem_print.proofs.statement.+statements.Goals as goal

pub push_statement-returns-in-Block : goal.push_statement-returns-in-Block
push_statement-returns-in-Block t c =
    subst (λ (s : Statement). OnOk c.push_block.result (c.push_block.new.text.items ≡ written c.args.text.now.items (statement_lexemes s)))
    (sym (block_is c.args.stmt.now c.in-Block.at c.in-Block.body c.items.result.now c.in-Block.is c.items.ensures)) c.push_block.ensures

pub push_statements-loop-stmt-preserved : goal.push_statements-loop-stmt-preserved
push_statements-loop-stmt-preserved t c =
    let i = c.loop-stmt.stmt-index in
    let stmt = c.stmt-item.result in
    let left : drop i c.args.body.now ≡ stmt ∷ drop (i + 1) c.args.body.now =
    drop_more c.args.body.now i stmt (omega arith) ∙ ap (λ x. x ∷ drop (i + 1) c.args.body.now) (sym c.stmt-item.is) in
    behind_part c.loop-stmt.text.items c.push_statement.new.text.items (statement_lexemes (statement_of stmt)) _ _
    c.in_ok-push_statement.ensures
    (ap (λ (all : List Stmt). statements_lexemes (statements_of all)) left)
    ∙ c.loop-stmt.invariant
