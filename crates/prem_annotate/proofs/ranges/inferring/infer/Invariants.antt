use Rattle.std.proofs.Common.{◌≤◌, length, map}
use Rattle.prem_annotate.proofs.Prelude.{plain_routine, outlook_of, row_of}
use Rattle.prem_annotate.proofs.Outlooks.{Inferring}
use mathlib.Core.List.{reverse}
use Rattle.prem_annotate.proofs.ranges.inferring.infer.Given as goal

abbrev pub invariant-loop-n : goal.invariant-loop-n
invariant-loop-n l =
    record {
      found : Inferring (map plain_routine l.routines) l.n (map row_of l.rows.items) (map outlook_of (reverse l.all.items));
      within : l.n ≤ length l.routines;
    }

abbrev pub decreases-loop-n : goal.decreases-loop-n
decreases-loop-n l = l.n
