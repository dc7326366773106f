use Rattle.std.proofs.Common.{◌≡◌, length}
use Rattle.prem_color.proofs.claims.count_ranges.Given as goal

abbrev pub invariant-loop-range : goal.invariant-loop-range
invariant-loop-range l = length l.counts.items ≡ length l.initial.counts.items
