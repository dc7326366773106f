use Rattle.std.proofs.Common.{◌≡◌, ◌+◌, ◌≤◌, length}
use Rattle.prem_line.specs.Lines.{lines_of}
use Rattle.prem_lint.specs.Keys.{is_sought, line_of, start}
use Rattle.prem_lint.proofs.keys.line_of.Given as goal

abbrev pub invariant-loop-rest : goal.invariant-loop-rest
invariant-loop-rest l =
    record {
      same : line_of (is_sought l.sought l.path) l.passed l.n (lines_of l.rest) ≡ line_of (is_sought l.sought l.path) start 1 (lines_of l.text);
      tasks : l.passed.tasks + length l.rest ≤ length l.text;
      devices : l.passed.devices + length l.rest ≤ length l.text;
      lines : l.n + length l.rest ≤ 1 + length l.text;
    }

abbrev pub decreases-loop-rest : goal.decreases-loop-rest
decreases-loop-rest l = length l.rest
