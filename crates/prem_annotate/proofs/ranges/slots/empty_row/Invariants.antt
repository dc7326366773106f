use Rattle.std.proofs.Common.{◌≡◌, ◌++◌, map, drop}
use Rattle.prem_annotate.proofs.Prelude.{row_of, empty_slot, parameter_of}
use Rattle.prem_annotate.proofs.ranges.slots.empty_row.Given as goal

abbrev pub invariant-loop-p : goal.invariant-loop-p
invariant-loop-p l = row_of l.row ++ map empty_slot (map parameter_of (drop l.p-index l.ps)) ≡ map empty_slot (map parameter_of l.ps)
