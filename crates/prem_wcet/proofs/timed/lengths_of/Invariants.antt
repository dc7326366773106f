use Rattle.std.proofs.Common.{◌≡◌, take}
use Rattle.prem_wcet.specs.Lengths.{lengths_within}
use Rattle.prem_wcet.proofs.timed.lengths_of.Given as goal

abbrev pub invariant-loop-k : goal.invariant-loop-k
invariant-loop-k l = l.lengths.items ≡ take l.k (lengths_within l.top l.opens l.stated)
