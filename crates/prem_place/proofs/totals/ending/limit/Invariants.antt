use Rattle.std.proofs.Common.{◌≡◌, ◌+◌, ◌*◌, ◌^◌, ◌≤◌, max, drop}
use Rattle.prem_layout.specs.Bounds.{last_release, work_of}
use Rattle.prem_place.specs.Totals.Limits.{jobs_with}
use Rattle.prem_place.proofs.totals.ending.limit.Given as goal

abbrev pub invariant-loop-n : goal.invariant-loop-n
invariant-loop-n l =
    record {
      releases : max l.last (last_release (jobs_with (drop l.n l.tasks) (drop l.n l.bounds))) ≡ last_release (jobs_with l.tasks l.bounds);
      works : l.work + work_of (jobs_with (drop l.n l.tasks) (drop l.n l.bounds)) ≡ work_of (jobs_with l.tasks l.bounds);
      early : l.last ≤ 2 ^ 48;
      little : l.work ≤ l.n * 2 ^ 56;
    }
