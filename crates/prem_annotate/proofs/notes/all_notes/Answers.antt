use Rattle.prem_annotate.proofs.Prelude.{notes_of, all_notes_found, outlook_of, global_of, function_of, map, drop, arith}
use Rattle.prem_annotate.proofs.Noted.{notes_end}
use Rattle.prem_tree.specs.declared.resolve.resolved.Routine.{Routine}
use Rattle.prem_annotate.proofs.notes.all_notes.Goals as goal

pub returns-then-n-outlooks : goal.returns-then-n-outlooks
returns-then-n-outlooks c =
    let gs = map (λ g. global_of g.now) c.args.globals.now in
    let table = map (λ cs. cs.items) c.args.table.now in
    let os = map outlook_of c.args.outlooks.now in
    notes_end gs table os c.loop-n.n (map (λ (r : Routine). function_of r.text.now) (drop c.loop-n.n c.args.routines.now)) c.args.outlooks.now (map notes_of c.loop-n.all.items)
    (all_notes_found gs table os 0 (map (λ (r : Routine). function_of r.text.now) c.args.routines.now) os) (omega arith) c.loop-n.invariant
