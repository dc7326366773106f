use Rattle.std.proofs.Common.{◌≡◌, ◌+◌, drop}
use Rattle.prem_layout.specs.Bounds.{stub_calling}
use Rattle.prem_bounds.specs.TableOf.{listed}
use Rattle.prem_bounds.proofs.bounds.stub_calling.Given as goal

abbrev pub invariant-loop-k : goal.invariant-loop-k
invariant-loop-k l = l.k + stub_calling l.part (listed (drop l.k l.stubs)) ≡ stub_calling l.part (listed l.stubs)
