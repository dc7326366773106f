use Rattle.std.proofs.Common.{◌≡◌, ◌+◌, List, ◌∷◌, map, drop, ap, sym, ◌∙◌, arith}
use Rattle.std.proofs.lemmas.List.{drop_more}
use Rattle.prem_syntax.specs.declared.tree.Item.{Item}
use Rattle.prem_syntax.specs.SyntaxOf.{item_of}
use Rattle.prem_text.specs.Canonical.Canonical.{item_lexemes, program_lexemes}
use Rattle.prem_print.proofs.Writing.{behind_part}
use Rattle.prem_print.proofs.item.push_items.Goals as goal

pub loop-item-preserved : goal.loop-item-preserved
loop-item-preserved c =
    let i = c.loop-item.item-index in
    let item = c.item-item.result in
    let left : drop i c.args.items.now ≡ item ∷ drop (i + 1) c.args.items.now =
    drop_more c.args.items.now i item (omega arith) ∙ ap (λ x. x ∷ drop (i + 1) c.args.items.now) (sym c.item-item.is) in
    behind_part c.loop-item.text.items c.push_item.new.text.items (item_lexemes (item_of item)) _ _
    c.in_ok-push_item.ensures
    (ap (λ (all : List Item). program_lexemes (map item_of all)) left)
    ∙ c.loop-item.invariant
