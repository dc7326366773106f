use Rattle.std.proofs.Common.{◌≡◌, drop}
use Rattle.prem_sched.specs.Schedule.{earlier, first_ready, least_release}
use Rattle.prem_sched.proofs.sched.Sched.choose.Given as goal

-- no task so far is ready, and the least release is that of theirs and of those that are left
abbrev pub invariant-loop-k : goal.invariant-loop-k
invariant-loop-k l =
    record {
      ready : first_ready l.now 0 l.self ≡ first_ready l.now l.k (drop l.k l.self);
      least : least_release l.now l.self ≡ earlier l.least (least_release l.now (drop l.k l.self));
    }
