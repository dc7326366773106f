use Rattle.std.proofs.Common.{◌≡◌, ◌≤◌, length, map, drop}
use Rattle.prem_annotate.proofs.Prelude.{row_of, with_arguments, argument_of}
use Rattle.prem_annotate.proofs.ranges.slots.add_to_rows.Given as goal

abbrev pub invariant-loop-n : goal.invariant-loop-n
invariant-loop-n l =
    record {
      rows_are : map row_of l.rows ≡ with_arguments (map argument_of (drop l.n l.arguments)) (map row_of l.initial.rows);
      within : l.n ≤ length l.arguments;
    }

abbrev pub decreases-loop-n : goal.decreases-loop-n
decreases-loop-n l = l.n
