-- A row of statements in memory as a list.
use Rattle.std.proofs.Common.{◌≡◌, refl, ap, ◌∙◌}
use Rattle.prem_list.specs.declared.Sequence.{Sequence}
use Rattle.prem_list.specs.Sequence.{items_of}
use Rattle.prem_syntax.specs.declared.tree.Place.{Place}
use Rattle.prem_syntax.specs.declared.tree.Stmt.{Stmt, Block, Row_of-Stmt, end_of-Stmt, more_of-Stmt, items-the_row-Stmt, items_hidden-the_row-Stmt-0}
use Rattle.prem_syntax.specs.declared.tree.Stmt.TheBlock.{hidden-the_row-Stmt-0}
use Rattle.prem_syntax.specs.Syntax.{block, next_statement}
use Rattle.prem_syntax.specs.SyntaxOf.{statement_of, row_of, statements_of}

row_listed : {m : _} (row : Row_of-Stmt m) → row_of row ≡ statements_of (items-the_row-Stmt m row)
row_listed end_of-Stmt = refl
row_listed (more_of-Stmt first rest) = ap (next_statement (statement_of first)) (row_listed rest)

-- a block in memory stands for the statements of its list
pub statement_of-Block : (at : Place) (body : Sequence Stmt) → statement_of (Block at body) ≡ block at (statements_of (items_of body))
statement_of-Block at body =
    ap (block at) (row_listed (hidden-the_row-Stmt-0 body.all) ∙ ap statements_of (items_hidden-the_row-Stmt-0 body.all))
