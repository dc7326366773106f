use Rattle.std.proofs.Common.{◌≡◌, ◌+◌, ◌∷◌, map, drop, ap, sym, ◌∙◌, arith}
use Rattle.std.proofs.lemmas.List.{drop_more}
use Rattle.prem_syntax.specs.SyntaxOf.{item_of}
use Rattle.prem_syntax.specs.Rules.{first}
use Rattle.prem_check.specs.FoundOf.{found_of}
use Rattle.prem_check.specs.Walk.{first_behind}
use Rattle.prem_check.proofs.First.{first_assoc}
use Rattle.prem_check.proofs.Passed.{at_most_one_more}
use Rattle.prem_check.proofs.program.pass_items.Goals as goal

pub loop-item-preserved : goal.loop-item-preserved
loop-item-preserved c =
    let taken = c.args.names.now in
    let within = c.args.within.now in
    let items = c.args.items.now in
    let i = c.loop-item.item-index in
    let item = c.item-item.result in
    let old = found_of c.loop-item.found in
    let own = found_of c.in_ok-pass_item.field-0 in
    let rest = map item_of (drop (i + 1) items) in
    let later = first_behind c.pass_item.new.walk taken within rest in
    let left : drop i items ≡ item ∷ drop (i + 1) items = drop_more items i item (omega arith) ∙ ap (λ x. x ∷ drop (i + 1) items) (sym c.item-item.is) in
    record {
      found =
          ap (λ o. first o later) c.earlier-found.ensures ∙ first_assoc old own later ∙ ap (first old) (sym (c.in_ok-pass_item.ensures.found rest))
          ∙ ap (λ xs. first old (first_behind c.loop-item.walk taken within (map item_of xs))) (sym left) ∙ c.loop-item.invariant.found;
      number = at_most_one_more c.pass_item.new.walk.number c.loop-item.walk.number i c.in_ok-pass_item.ensures.number c.loop-item.invariant.number;
    }
