use Rattle.std.proofs.Common.{◌≡◌, ◌≤◌, map}
use Rattle.prem_analysis.proofs.Prelude.{with_callees_below}
use Rattle.prem_analysis.proofs.marks.reach.add_callees_below.Given as goal

abbrev pub invariant-loop-n : goal.invariant-loop-n
invariant-loop-n l =
    record {
      rest : with_callees_below (map (λ cs. cs.items) l.table) l.n l.set ≡ with_callees_below (map (λ cs. cs.items) l.table) l.end l.initial.set;
      within : l.n ≤ l.end;
    }

abbrev pub decreases-loop-n : goal.decreases-loop-n
decreases-loop-n l = l.n
