use Rattle.std.proofs.Common.{rules, ◌≡◌, ◌+◌, true, List, ◌∷◌, drop, map, ap, sym, ◌∙◌, arith}
use Rattle.prem_tiling.proofs.Prelude.{has_name, parameter_texts, name_bytes, parameter_of, drop_more, bytes_eq}
use Rattle.prem_syntax.specs.declared.tree.Param.{Param}
use Rattle.prem_tiling.proofs.CopiesLemmas.Looking.{found_first}
use Rattle.prem_tiling.proofs.copies.used.parameter_named.Goals as goal

pub returns-then-eq : goal.returns-then-eq
returns-then-eq c =
    let i = c.params.p-index in
    let all = c.args.params.now in
    let text = c.args.text.now in
    let p = c.p-item.result in
    let left : drop i all ≡ p ∷ drop (i + 1) all = drop_more all i p (omega arith) ∙ ap (λ x. x ∷ drop (i + 1) all) (sym c.p-item.is) in
    let is : bytes_eq (name_bytes p.name) text ≡ true = search rules in
    found_first (parameter_texts (map parameter_of all)) (parameter_texts (map parameter_of (drop (i + 1) all))) (name_bytes p.name) text
    (c.params.invariant ∙ ap (λ (xs : List Param). has_name (parameter_texts (map parameter_of xs)) text) left) is
