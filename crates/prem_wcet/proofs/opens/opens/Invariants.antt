use Rattle.std.proofs.Common.{◌≡◌, take}
use Rattle.prem_wcet.specs.Lengths.{opens_in}
use Rattle.prem_wcet.proofs.opens.opens.Given as goal

abbrev pub invariant-loop-k : goal.invariant-loop-k
invariant-loop-k l = l.all.items ≡ take l.k (opens_in l.p l.t)
