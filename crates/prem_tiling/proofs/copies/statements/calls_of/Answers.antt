use Rattle.std.proofs.Common.{◌≡◌, ◌+◌, List, ◌∷◌, drop, map, ap, sym, ◌∙◌, arith}
use Rattle.prem_tiling.proofs.Prelude.{items_of, name_bytes, Statement, no_statements, next_statement, statements_before, Name, Stmt, calls_before, drop_more}
use Rattle.prem_tiling.proofs.CopiesLemmas.Blocks.{before_push}
use Rattle.prem_tiling.proofs.copies.statements.calls_of.Goals as goal

pub tiles-preserved : goal.tiles-preserved
tiles-preserved c =
    let i = c.tiles.tile-index in
    let all = c.args.tiles.now in
    let tile = c.tile-item.result in
    let left : drop i all ≡ tile ∷ drop (i + 1) all = drop_more all i tile (omega arith) ∙ ap (λ x. x ∷ drop (i + 1) all) (sym c.tile-item.is) in
    let rest = calls_before c.args.at (map name_bytes (drop (i + 1) all)) no_statements in
    ap (λ (xs : List Stmt). statements_before xs rest) c.in_ok-push.ensures.ok ∙ before_push (items_of c.tiles.calls) c.in_ok-call_of.field-0 rest
    ∙ ap (λ (s : Statement). statements_before (items_of c.tiles.calls) (next_statement s rest)) c.in_ok-call_of.ensures
    ∙ ap (λ (xs : List Name). statements_before (items_of c.tiles.calls) (calls_before c.args.at (map name_bytes xs) no_statements)) (sym left) ∙ c.tiles.invariant
