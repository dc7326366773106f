use Rattle.std.proofs.Common.{◌≡◌, drop}
use Rattle.prem_names.specs.Reach.Reach.{with_numbers}
use Rattle.prem_names.proofs.reach.put_in.Given as goal

abbrev pub invariant-loop-k : goal.invariant-loop-k
invariant-loop-k l = with_numbers (drop l.k-index l.numbers) 0 l.set ≡ with_numbers l.numbers 0 l.fn.set
