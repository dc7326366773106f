use Rattle.std.specs.Prelude.{◌≡◌, ◌++◌, drop}
use Rattle.prem_wcet.proofs.crowd.with_ranges.Given as goal

-- what is there, and the rest
abbrev pub invariant-loop-range : goal.invariant-loop-range
invariant-loop-range l = l.all.items ++ drop l.range-index l.touched ≡ l.fn.code.items ++ l.touched
