-- Statements in lists.
use Rattle.std.proofs.Common.{◌≡◌, ◌≤◌, List, [], ◌∷◌, ◌++◌, length, refl, ap, sym, ◌∙◌, arith, None}
use Rattle.prem_tiling.proofs.Prelude.{items_of, statement_of-Block, Statements, next_statement, block, statement_of, statements_before, statements_of, Place, Stmt, Block, only_loop}
use Rattle.prem_list.specs.declared.Sequence.{Sequence}

-- a block has the statements of its list
pub block_is : (stmt : Stmt) (at : Place) (body : Sequence Stmt) (items : List Stmt) → stmt ≡ Block at body → items ≡ items_of body → statement_of stmt ≡ block at (statements_of items)
block_is stmt at body items is same = ap statement_of is ∙ statement_of-Block at body ∙ ap (λ xs. block at (statements_of xs)) (sym same)

-- one statement more
pub before_push : (xs : List Stmt) (x : Stmt) (rest : Statements) → statements_before (xs ++ x ∷ []) rest ≡ statements_before xs (next_statement (statement_of x) rest)
before_push [] x rest = refl
before_push (y ∷ ys) x rest = ap (next_statement (statement_of y)) (before_push ys x rest)

-- two statements are no loop alone
pub two_are_no_loop : (xs : List Stmt) → 2 ≤ length xs → None ≡ only_loop (statements_of xs)
two_are_no_loop [] long = absurd (omega arith)
two_are_no_loop (x ∷ []) long = absurd (omega arith)
two_are_no_loop (x ∷ y ∷ ys) long = refl
