use Rattle.std.proofs.Common.{◌≤◌, length, map}
use Rattle.prem_annotate.proofs.Prelude.{plain_routine, found_of, row_of, unlimited, global_of, routines_of}
use Rattle.prem_annotate.proofs.RulesLemmas.Found.{Finding}
use Rattle.prem_annotate.proofs.rules.finding.first_among.Given as goal

abbrev pub invariant-loop-n : goal.invariant-loop-n
invariant-loop-n l =
    record {
      found : Finding (map (λ g. global_of g.now) l.globals) (routines_of unlimited.turns 0 l.routines) (map plain_routine l.routines) l.n (map row_of l.rows.items) (found_of l.first);
      within : l.n ≤ length l.routines;
    }

abbrev pub decreases-loop-n : goal.decreases-loop-n
decreases-loop-n l = l.n
