use Rattle.std.proofs.Common.{◌≡◌, ◌+◌, ◌≤◌, drop, min}
use Rattle.prem_tree.specs.Resolve.ResolvedOf.{all_loops}
use Rattle.prem_gen.specs.Codes.Loops.{most_loops}
use Rattle.prem_gen.proofs.codes.loops.loops_of_all.Given as goal

abbrev pub invariant-loop-routine : goal.invariant-loop-routine
invariant-loop-routine l = record {
  few : l.found ≤ most_loops;
  sum : min (l.found + all_loops (drop l.routine-index l.routines)) most_loops ≡ min (all_loops l.routines) most_loops;
}
