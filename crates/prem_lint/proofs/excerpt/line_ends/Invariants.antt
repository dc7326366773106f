use Rattle.std.proofs.Common.{◌≡◌, ◌+◌, ◌≤◌, drop}
use Rattle.prem_lint.specs.Spots.{line_ends}
use Rattle.prem_lint.proofs.excerpt.line_ends.Given as goal

abbrev pub invariant-loop-n : goal.invariant-loop-n
invariant-loop-n l =
    record {
      same : l.ends + line_ends (drop l.n l.bytes) ≡ line_ends l.bytes;
      few : l.ends ≤ l.n;
    }
