use Rattle.std.proofs.Common.{◌≡◌, map, ap, ◌∙◌, List}
use Rattle.prem_analysis.proofs.Prelude.{called, items_of, Routine}
use Rattle.prem_analysis.proofs.MarksLemmas.Watched.{if_watched}
use Rattle.prem_analysis.proofs.marks.marked.marked_of.Goals as goal

pub returns : goal.returns
returns c =
    let r = c.args.r.now in
    let table = map (λ cs. cs.items) c.deref-2.result.now in
    let are_callees : table ≡ map (λ (f : Routine). called f.body) (items_of r.routines) =
    ap (λ xs. map (λ cs. cs.items) xs) c.deref-2.ensures.value ∙ c.in_ok-table.ensures ∙ ap (λ (fs : List Routine). map (λ (f : Routine). called f.body) fs) c.items.ensures in
    if_watched (λ all. all.items) r table c.deref.result.now c.items-2.result.now c.entries.result are_callees c.deref.ensures.value c.items-2.ensures c.entries.ensures
