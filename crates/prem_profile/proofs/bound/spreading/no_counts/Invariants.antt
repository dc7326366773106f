use Rattle.std.proofs.Common.{◌≡◌, replicate}
use Rattle.prem_profile.proofs.bound.spreading.no_counts.Given as goal

abbrev pub invariant-counts : goal.invariant-counts
invariant-counts l = l.counts.items ≡ replicate l.counter 0
