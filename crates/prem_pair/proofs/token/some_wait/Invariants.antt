use Rattle.std.proofs.Common.{◌≡◌, drop}
use Rattle.prem_pair.proofs.Prelude.{some_wait}
use Rattle.prem_pair.proofs.token.some_wait.Given as goal

-- those from here on wait as all do
abbrev pub invariant-loop-device : goal.invariant-loop-device
invariant-loop-device l = some_wait (drop l.device l.gates.gates) ≡ some_wait l.gates.gates
