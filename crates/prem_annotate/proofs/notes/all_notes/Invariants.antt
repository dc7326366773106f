use Rattle.std.proofs.Common.{◌≡◌, ◌++◌, map, drop}
use Rattle.prem_annotate.proofs.Prelude.{notes_of, all_notes_found, outlook_of, global_of, function_of}
use Rattle.prem_annotate.proofs.notes.all_notes.Given as goal

abbrev pub invariant-loop-n : goal.invariant-loop-n
invariant-loop-n l =
    map notes_of l.all.items
    ++ all_notes_found (map (λ g. global_of g.now) l.globals) (map (λ cs. cs.items) l.table) (map outlook_of l.outlooks) l.n
    (map (λ r. function_of r.text.now) (drop l.n l.routines)) (map outlook_of (drop l.n l.outlooks))
    ≡ all_notes_found (map (λ g. global_of g.now) l.globals) (map (λ cs. cs.items) l.table) (map outlook_of l.outlooks) 0 (map (λ r. function_of r.text.now) l.routines) (map outlook_of l.outlooks)
