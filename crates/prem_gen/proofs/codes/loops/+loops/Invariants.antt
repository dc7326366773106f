use Rattle.std.proofs.Common.{◌≡◌, ◌+◌, ◌≤◌, drop, min}
use Rattle.prem_tree.specs.Resolve.ResolvedOf.{list_loops}
use Rattle.prem_gen.specs.Codes.Loops.{most_loops}
use Rattle.prem_gen.proofs.codes.loops.+loops.Given as goal

abbrev pub invariant-loops_among-loop-step : goal.invariant-loops_among-loop-step
invariant-loops_among-loop-step l = record {
  few : l.found ≤ most_loops;
  sum : min (l.found + list_loops (drop l.step-index l.steps)) most_loops ≡ min (list_loops l.steps) most_loops;
}
