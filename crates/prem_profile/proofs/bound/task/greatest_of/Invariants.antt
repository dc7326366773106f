use Rattle.std.proofs.Common.{◌≡◌, ◌<◌, ◌^◌, max, drop}
use Rattle.prem_wcet.specs.JobTimes.{greatest_length}
use Rattle.prem_profile.proofs.bound.task.greatest_of.Given as goal

-- the greatest so far, and that of the rest
abbrev pub invariant-lengths : goal.invariant-lengths
invariant-lengths l =
    record {
      stated : max l.most (greatest_length (drop l.length-index l.lengths)) ≡ greatest_length l.lengths;
      small : l.most < 2 ^ 32;
    }
