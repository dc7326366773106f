use Rattle.prem_annotate.proofs.Prelude.{notes_of, orders_from, order_of, edited_text, functions_of, item_of, program_of, List, ap, ◌∙◌, map}
use Rattle.prem_annotate.proofs.WritingLemmas.Writing.{text_is}
use Rattle.prem_annotating.specs.declared.editing.walk.Order.{Order}
use Rattle.prem_syntax.specs.declared.tree.Item.{Item}
use Rattle.prem_annotate.proofs.writing.noting.annotate_text.Goals as goal

pub returns : goal.returns
returns c =
    text_is c.args.text.now (program_of c.args.program.now) (map order_of c.in_ok-orders.orders.items) (map notes_of c.args.notes.now) c.in_ok-edited.edited.items c.requires
    (c.in_ok-orders.ensures ∙ ap (λ (items : List Item). orders_from 0 (functions_of (map item_of items)) (map notes_of c.args.notes.now)) c.items.ensures)
    (c.in_ok-edited.ensures ∙ ap (λ (os : List Order). edited_text (map order_of os) c.args.text.now) c.deref.ensures.value)
