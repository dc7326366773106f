use Rattle.std.proofs.Common.{List, sym, subst}
use Rattle.prem_syntax.specs.declared.tree.Stmt.{Stmt}
use Rattle.prem_syntax.specs.SyntaxOf.{statement_of, statements_of}
use Rattle.prem_syntax.specs.Literals.{StatementHasWords, StatementsHaveWords}
use Rattle.prem_syntax.proofs.Rows.{statement_of-Block}
use Rattle.prem_syntax.proofs.words.+stating.Goals as goal

pub statement-returns-in-Block : goal.statement-returns-in-Block
statement-returns-in-Block t c =
    subst (λ (s : Stmt). StatementHasWords (statement_of s)) (sym c.in-Block.is)
    (subst StatementHasWords (sym (statement_of-Block c.in-Block.at c.in-Block.body)) (subst (λ (l : List Stmt). StatementsHaveWords (statements_of l)) c.items.ensures c.statements.ensures))
