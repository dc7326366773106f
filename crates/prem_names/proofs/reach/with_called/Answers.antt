use Rattle.std.proofs.Common.{◌≡◌, ◌+◌, [], ◌∷◌, drop, map, ap, sym, ◌∙◌, arith, rules}
use Rattle.std.proofs.lemmas.Grind.{common_steps}
use Rattle.std.proofs.lemmas.List.{drop_more, places, with_items_is}
use Rattle.prem_names.specs.Reach.Reach.{followed, with_new}
use Rattle.prem_names.proofs.ReachLemmas.Sets.{no_rows, row_followed}
use Rattle.prem_names.proofs.reach.with_called.Goals as goal

pub loop-k-preserved : goal.loop-k-preserved
loop-k-preserved c =
    let table = c.args.table.now in
    let before = c.args.before.now in
    let set = c.args.set.now in
    let k = c.loop-k.k in
    let row = c.index-table-k.result in
    let xs = c.loop-k.next.items in
    let rest = map (λ ks. ks.items) (drop (k + 1) table) in
    let left : drop k table ≡ row ∷ drop (k + 1) table = drop_more table k row (omega arith) ∙ ap (λ x. x ∷ drop (k + 1) table) (sym c.index-table-k.is) in
    ap (with_new rest before set (k + 1) 0)
    (with_items_is c.loop-k.next c.follow.new.set (search (rules, places)) ∙ c.follow.ensures
    ∙ (λ i. followed (c.is_new.ensures i) (c.deref.ensures.value i) (c.deref_mut.ensures.value i)))
    ∙ row_followed row.items rest before set k xs ∙ ap (λ t. with_new (map (λ ks. ks.items) t) before set k 0 xs) (sym left) ∙ c.loop-k.invariant

pub returns : goal.returns
returns c =
    let none : drop c.loop-k.k c.args.table.now ≡ [] = grind (arith, common_steps) in
    sym (no_rows c.args.before.now c.args.set.now c.loop-k.k 0 c.loop-k.next.items)
    ∙ ap (λ t. with_new (map (λ ks. ks.items) t) c.args.before.now c.args.set.now c.loop-k.k 0 c.loop-k.next.items) (sym none) ∙ c.loop-k.invariant
