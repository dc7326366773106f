use Rattle.std.proofs.Common.{◌≡◌, ◌+◌, ◌≤◌, drop, min}
use Rattle.prem_syntax.specs.SyntaxOf.{statements_of}
use Rattle.prem_gen.specs.Frame.FrameOf.{most}
use Rattle.prem_gen.specs.Frame.Bounded.{bounded_among}
use Rattle.prem_gen.proofs.frame.text.+bounded.Given as goal

abbrev pub invariant-bounded_among-loop-stmt : goal.invariant-bounded_among-loop-stmt
invariant-bounded_among-loop-stmt l = record {
  few : l.found ≤ most;
  sum : min (l.found + bounded_among (statements_of (drop l.stmt-index l.stmts))) most ≡ min (bounded_among (statements_of l.stmts)) most;
}
