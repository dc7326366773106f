use Rattle.std.proofs.Common.{◌≡◌, ◌≤◌, ◌+◌, ◌++◌, drop, length}
use Rattle.prem_gen.specs.Table.Table.{callees_from}
use Rattle.prem_gen.proofs.table.table.callees.Given as goal

-- what is there, and the rest
abbrev pub invariant-loop-routine : goal.invariant-loop-routine
invariant-loop-routine l = record {
  all : l.list.items ++ callees_from l.stub l.n (drop l.routine-index l.routines) ≡ callees_from (1 + length l.routines) 0 l.routines;
  number : l.n ≡ l.routine-index;
  few : l.stub ≤ 1 + length l.routines + l.routine-index;
}
