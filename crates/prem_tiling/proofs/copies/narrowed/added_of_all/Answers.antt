use Rattle.std.proofs.Common.{◌≡◌, ◌+◌, List, ◌∷◌, drop, map, ap, sym, ◌∙◌, arith}
use Rattle.prem_tiling.proofs.Prelude.{name_bytes, expression_of, added_view, Added, joined, added_of, added_of_all, drop_more}
use Rattle.prem_syntax.specs.declared.tree.Expr.{Expr}
use Rattle.prem_tiling.proofs.CopiesLemmas.Joined.{joined_assoc}
use Rattle.prem_tiling.proofs.copies.narrowed.added_of_all.Goals as goal

pub terms-preserved : goal.terms-preserved
terms-preserved c =
    let k = c.terms.e-index in
    let all = c.args.es.now in
    let e = c.e-item.result in
    let i = name_bytes c.args.i.now in
    let g = name_bytes c.args.g.now in
    let left : drop k all ≡ e ∷ drop (k + 1) all = drop_more all k e (omega arith) ∙ ap (λ x. x ∷ drop (k + 1) all) (sym c.e-item.is) in
    let rest = added_of_all i g (map expression_of (drop (k + 1) all)) in
    ap (λ (a : Added). joined a rest) (c.joined-all.ensures ∙ ap (joined (added_view c.terms.all)) c.added_of.ensures)
    ∙ joined_assoc (added_view c.terms.all) (added_of i g (expression_of e)) rest
    ∙ ap (λ (xs : List Expr). joined (added_view c.terms.all) (added_of_all i g (map expression_of xs))) (sym left) ∙ c.terms.invariant
