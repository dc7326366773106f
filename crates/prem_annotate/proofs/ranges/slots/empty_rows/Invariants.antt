use Rattle.std.proofs.Common.{◌≡◌, ◌++◌, map, drop}
use Rattle.prem_annotate.proofs.Prelude.{plain_routine, row_of, empty_row}
use Rattle.prem_annotate.proofs.ranges.slots.empty_rows.Given as goal

abbrev pub invariant-loop-f : goal.invariant-loop-f
invariant-loop-f l = map row_of l.rows.items ++ map empty_row (map plain_routine (drop l.f-index l.routines)) ≡ map empty_row (map plain_routine l.routines)
