use Rattle.std.proofs.Common.{rules, ◌≡◌, ◌+◌, true, List, ◌∷◌, drop, map, ap, sym, ◌∙◌, arith}
use Rattle.prem_tiling.proofs.Prelude.{has_name, name_bytes, local_of, names_of, drop_more, bytes_eq}
use Rattle.prem_syntax.specs.declared.tree.Local.{Local}
use Rattle.prem_tiling.proofs.CopiesLemmas.Looking.{found_first}
use Rattle.prem_tiling.proofs.copies.used.local_named.Goals as goal

pub returns-then-eq : goal.returns-then-eq
returns-then-eq c =
    let i = c.locals.l-index in
    let all = c.args.locals.now in
    let text = c.args.text.now in
    let l = c.l-item.result in
    let left : drop i all ≡ l ∷ drop (i + 1) all = drop_more all i l (omega arith) ∙ ap (λ x. x ∷ drop (i + 1) all) (sym c.l-item.is) in
    let is : bytes_eq (name_bytes l.name) text ≡ true = search rules in
    found_first (names_of (map local_of all)) (names_of (map local_of (drop (i + 1) all))) (name_bytes l.name) text
    (c.locals.invariant ∙ ap (λ (xs : List Local). has_name (names_of (map local_of xs)) text) left) is
