use Rattle.std.proofs.Common.{◌≡◌, ◌++◌, ◌≤◌, length, drop}
use Rattle.prem_split.specs.PlansWith.{marks_of}
use Rattle.prem_foot.specs.PlacesFrom.{marked_from}
use Rattle.prem_foot.proofs.places.marked_functions.Given as goal

abbrev pub invariant-loop-n : goal.invariant-loop-n
invariant-loop-n l =
    record {
      rest : l.marked.items ++ marked_from l.n (marks_of (drop l.n l.fs)) ≡ marked_from 0 (marks_of l.fs);
      few : length l.marked.items ≤ l.n;
    }
