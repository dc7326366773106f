use Rattle.std.proofs.Common.{◌≡◌, ◌+◌, List, ◌∷◌, drop, map, ap, sym, ◌∙◌, arith}
use Rattle.prem_tiling.proofs.Prelude.{items_of, name_bytes, Statement, block, next_statement, statements_before, statements_of, Stmt, with_calls, all_with_calls, drop_more}
use Rattle.prem_tiling.proofs.CopiesLemmas.Blocks.{block_is, before_push}
use Rattle.prem_tiling.proofs.copies.statements.+copying.Goals as goal

pub copy_stmt-returns-in_ok-body-in-Block : goal.copy_stmt-returns-in_ok-body-in-Block
copy_stmt-returns-in_ok-body-in-Block t c =
    c.block_of.ensures ∙ ap (block c.in-Block.at) c.in_ok-body-in-Block.ensures
    ∙ ap (with_calls (name_bytes c.args.name.now) (map name_bytes c.args.tiles.now)) (sym (block_is c.args.stmt.now c.in-Block.at c.in-Block.body c.items.result.now c.in-Block.is c.items.ensures))

pub copy_stmts-stmts-preserved : goal.copy_stmts-stmts-preserved
copy_stmts-stmts-preserved t c =
    let i = c.stmts.stmt-index in
    let all = c.args.stmts.now in
    let stmt = c.stmt-item.result in
    let name = name_bytes c.args.name.now in
    let tiles = map name_bytes c.args.tiles.now in
    let left : drop i all ≡ stmt ∷ drop (i + 1) all = drop_more all i stmt (omega arith) ∙ ap (λ x. x ∷ drop (i + 1) all) (sym c.stmt-item.is) in
    let rest = all_with_calls name tiles (statements_of (drop (i + 1) all)) in
    ap (λ (xs : List Stmt). statements_before xs rest) c.in_ok-push.ensures.ok ∙ before_push (items_of c.stmts.copies) c.in_ok-copy_stmt.field-0 rest
    ∙ ap (λ (s : Statement). statements_before (items_of c.stmts.copies) (next_statement s rest)) c.in_ok-copy_stmt.ensures
    ∙ ap (λ (xs : List Stmt). statements_before (items_of c.stmts.copies) (all_with_calls name tiles (statements_of xs))) (sym left) ∙ c.stmts.invariant
