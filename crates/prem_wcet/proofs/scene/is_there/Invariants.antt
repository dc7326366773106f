use Rattle.std.proofs.Common.{◌≡◌, drop}
use Rattle.std.specs.List.{list_any}
use Rattle.prem_wcet.specs.Once.{is_range}
use Rattle.prem_wcet.proofs.scene.is_there.Given as goal

-- it is one of the rest
abbrev pub invariant-loop-other : goal.invariant-loop-other
invariant-loop-other l = list_any (is_range l.range) (drop l.other-index l.ranges) ≡ list_any (is_range l.range) l.ranges
