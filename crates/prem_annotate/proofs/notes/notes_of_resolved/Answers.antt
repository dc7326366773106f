use Rattle.prem_annotate.proofs.Prelude.{plain_routine, called, notes_of, all_notes_found, outlook_of, outlook, ranged_routines, global_of, function_of, map, List, ap, ◌∙◌}
use Rattle.prem_annotate.proofs.Noted.{resolved_noted}
use Rattle.prem_tree.specs.declared.resolve.resolved.Routine.{Routine}
use Rattle.prem_annotate.proofs.notes.notes_of_resolved.Goals as goal

pub returns : goal.returns
returns c =
    let r = c.args.r.now in
    let gs = map (λ g. global_of g.now) c.deref.result.now in
    let table = map (λ cs. cs.items) c.deref-2.result.now in
    let os = map outlook_of c.deref-3.result.now in
    resolved_noted r gs table os (map notes_of c.in_ok-all.all.items)
    (ap (λ xs. map (λ g. global_of g.now) xs) c.deref.ensures.value)
    (ap (λ xs. map (λ cs. cs.items) xs) c.deref-2.ensures.value ∙ c.in_ok-table.ensures ∙ ap (λ (fs : List Routine). map (λ (f : Routine). called f.body) fs) c.items-2.ensures)
    (ap (λ xs. map outlook_of xs) c.deref-3.ensures.value ∙ c.in_ok-outlooks.ensures ∙ ap (λ (fs : List Routine). map outlook (ranged_routines 0 (map plain_routine fs))) c.items.ensures)
    (c.in_ok-all.ensures ∙ ap (λ (fs : List Routine). all_notes_found gs table os 0 (map (λ (f : Routine). function_of f.text.now) fs) os) c.items-3.ensures)
