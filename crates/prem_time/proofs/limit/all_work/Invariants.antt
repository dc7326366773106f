use Rattle.std.proofs.Common.{◌≡◌, ◌+◌, ◌*◌, ◌≤◌, ◌^◌, drop}
use Rattle.prem_time.specs.Told.{work_told}
use Rattle.prem_time.proofs.limit.all_work.Given as goal

-- the work so far and that of the rest are that of all, and each task adds a limited part
abbrev pub invariant-loop-i : goal.invariant-loop-i
invariant-loop-i l = record {
  work : l.work + work_told (drop l.i l.tasks) (drop l.i l.loads) ≡ work_told l.tasks l.loads;
  small : l.work ≤ l.i * 2 ^ 56;
}
