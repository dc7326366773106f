use Rattle.std.proofs.Common.{◌≡◌, ◌+◌, List, ◌∷◌, drop, ap, sym, ◌∙◌, arith}
use Rattle.prem_tiling.proofs.Prelude.{name_bytes, statement_of, statements_of, Stmt, added_view, Added, joined, added_in, added_within, drop_more}
use Rattle.prem_tiling.proofs.CopiesLemmas.Blocks.{block_is}
use Rattle.prem_tiling.proofs.CopiesLemmas.Joined.{joined_assoc}
use Rattle.prem_tiling.proofs.copies.narrowed.+adding.Goals as goal

pub added_in-returns-in-Block : goal.added_in-returns-in-Block
added_in-returns-in-Block t c =
    c.added_within.ensures ∙ ap (added_in (name_bytes c.args.i.now) (name_bytes c.args.g.now))
    (sym (block_is c.args.stmt.now c.in-Block.at c.in-Block.body c.items.result.now c.in-Block.is c.items.ensures))

pub added_within-stmts-preserved : goal.added_within-stmts-preserved
added_within-stmts-preserved t c =
    let k = c.stmts.stmt-index in
    let all = c.args.stmts.now in
    let stmt = c.stmt-item.result in
    let i = name_bytes c.args.i.now in
    let g = name_bytes c.args.g.now in
    let left : drop k all ≡ stmt ∷ drop (k + 1) all = drop_more all k stmt (omega arith) ∙ ap (λ x. x ∷ drop (k + 1) all) (sym c.stmt-item.is) in
    let rest = added_within i g (statements_of (drop (k + 1) all)) in
    ap (λ (a : Added). joined a rest) (c.joined-all.ensures ∙ ap (joined (added_view c.stmts.all)) c.added_in.ensures)
    ∙ joined_assoc (added_view c.stmts.all) (added_in i g (statement_of stmt)) rest
    ∙ ap (λ (xs : List Stmt). joined (added_view c.stmts.all) (added_within i g (statements_of xs))) (sym left) ∙ c.stmts.invariant
