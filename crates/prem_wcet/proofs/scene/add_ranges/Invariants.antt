use Rattle.std.proofs.Common.{◌≡◌, drop}
use Rattle.prem_wcet.specs.Once.{with_ranges}
use Rattle.prem_wcet.proofs.scene.add_ranges.Given as goal

-- what is there, and the rest
abbrev pub invariant-loop-range : goal.invariant-loop-range
invariant-loop-range l = with_ranges l.ranges.items (drop l.range-index l.more) ≡ with_ranges l.fn.ranges.items l.more
