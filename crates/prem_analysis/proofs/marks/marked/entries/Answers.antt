use Rattle.std.proofs.Common.{◌++◌, map, ap, sym, ◌∙◌, arith, List}
use Rattle.prem_analysis.proofs.Prelude.{Entry, entry_of, entry_if, unlimited, global_of, mark_of, Routine, append-nil, option_map}
use Rattle.prem_analysis.proofs.MarksLemmas.Watched.{one_more, none_left_over}
use Rattle.prem_analysis.proofs.marks.marked.entries.Goals as goal

pub loop-n-preserved : goal.loop-n-preserved
loop-n-preserved c =
    let gs = map (λ g. global_of g.now) c.args.globals.now in
    let table = map (λ cs. cs.items) c.args.table.now in
    one_more gs table unlimited.turns 0 c.args.routines.now c.loop-n.n c.index-routines-n.result (map entry_of c.loop-n.all.items)
    (map entry_of c.add_marked.new.all.items) (omega arith) c.index-routines-n.is
    (c.in_ok-add_marked.ensures ∙ ap (λ (f : Routine). map entry_of c.loop-n.all.items ++ entry_if gs table c.loop-n.n (option_map mark_of f.text.now.mark)) (sym c.index-routines-n.is))
    ∙ c.loop-n.invariant

pub returns : goal.returns
returns c =
    let gs = map (λ g. global_of g.now) c.args.globals.now in
    let table = map (λ cs. cs.items) c.args.table.now in
    let done = map entry_of c.loop-n.all.items in
    let none = none_left_over gs table unlimited.turns 0 c.args.routines.now c.loop-n.n c.loop-n.n (omega arith) in
    sym (append-nil done) ∙ ap (λ (x : List Entry). done ++ x) (sym none) ∙ c.loop-n.invariant
