use Rattle.std.proofs.Common.{◌≡◌, ◌++◌, map, drop}
use Rattle.prem_analysis.proofs.Prelude.{entry_of, entries_from, unlimited, global_of, routines_of}
use Rattle.prem_analysis.proofs.marks.marked.entries.Given as goal

abbrev pub invariant-loop-n : goal.invariant-loop-n
invariant-loop-n l =
    map entry_of l.all.items ++ entries_from (map (λ g. global_of g.now) l.globals) (map (λ cs. cs.items) l.table) l.n (drop l.n (routines_of unlimited.turns 0 l.routines))
    ≡ entries_from (map (λ g. global_of g.now) l.globals) (map (λ cs. cs.items) l.table) 0 (routines_of unlimited.turns 0 l.routines)
