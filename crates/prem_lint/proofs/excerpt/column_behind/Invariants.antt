use Rattle.std.proofs.Common.{◌≡◌, ◌+◌, ◌≤◌, drop}
use Rattle.prem_lint.specs.Spots.{column_behind}
use Rattle.prem_lint.proofs.excerpt.column_behind.Given as goal

abbrev pub invariant-loop-n : goal.invariant-loop-n
invariant-loop-n l =
    record {
      same : column_behind l.col (drop l.n l.bytes) ≡ column_behind 1 l.bytes;
      small : l.col ≤ l.n + 1;
    }
