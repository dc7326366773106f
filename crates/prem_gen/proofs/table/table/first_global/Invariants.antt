use Rattle.std.proofs.Common.{◌≡◌, ◌+◌, ◌≤◌, drop}
use Rattle.prem_gen.specs.Table.Table.{all_marks}
use Rattle.prem_gen.proofs.table.table.first_global.Given as goal

-- the stubs that are counted, and those of the rest
abbrev pub invariant-loop-routine : goal.invariant-loop-routine
invariant-loop-routine l = record {
  sum : l.stubs + all_marks (drop l.routine-index l.routines) ≡ all_marks l.routines;
  few : l.stubs ≤ l.routine-index;
}
