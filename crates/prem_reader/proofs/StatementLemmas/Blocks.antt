-- A block in memory stands for its statements.
use Rattle.std.proofs.Common.{◌≡◌, List, [], ◌∷◌, refl, ap, ◌∙◌, map}
use Rattle.prem_list.specs.declared.Sequence.{Sequence}
use Rattle.prem_list.specs.Sequence.{items_of}
use Rattle.prem_syntax.specs.declared.tree.Place.{Place}
use Rattle.prem_syntax.specs.declared.tree.Stmt.{Stmt, Block}
use Rattle.prem_syntax.specs.Syntax.{block, next_statement}
use Rattle.prem_syntax.specs.SyntaxOf.{statement_of, statements_of}
use Rattle.prem_syntax.proofs.Rows.{statement_of-Block}
use Rattle.prem_text.specs.Grammar.Statement.{listed}

pub statements_listed : (xs : List Stmt) → statements_of xs ≡ listed (map statement_of xs)
statements_listed [] = refl
statements_listed (x ∷ xs) = ap (next_statement (statement_of x)) (statements_listed xs)

pub block_made : (at : Place) (body : Sequence Stmt) → statement_of (Block at body) ≡ block at (listed (map statement_of (items_of body)))
block_made at body = statement_of-Block at body ∙ ap (block at) (statements_listed (items_of body))
