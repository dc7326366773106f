use Rattle.std.proofs.Common.{◌≡◌, ◌++◌, drop}
use Rattle.prem_profile.proofs.bound.scope.copy_of.Given as goal

-- what is there, and what is left
abbrev pub invariant-loop-range : goal.invariant-loop-range
invariant-loop-range l = l.copy.items ++ drop l.range-index l.ranges ≡ l.ranges
