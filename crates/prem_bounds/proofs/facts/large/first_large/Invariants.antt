use Rattle.std.proofs.Common.{◌≡◌, ◌≤◌, map, drop, length}
use Rattle.prem_bounds.specs.Facts.Large.{is_marked_tree, first_large}
use Rattle.prem_bounds.proofs.facts.large.first_large.Given as goal

abbrev pub invariant-loop-n : goal.invariant-loop-n
invariant-loop-n l =
    record {
      rest : first_large l.job l.is_job_large l.n (drop l.k l.large) (map is_marked_tree (drop l.n l.fs)) ≡ first_large l.job l.is_job_large 0 l.large (map is_marked_tree l.fs);
      within : l.k ≤ length l.large;
    }
