use Rattle.std.proofs.Common.{◌≡◌, ◌++◌, drop}
use Rattle.prem_time.specs.Promises.{promises_told}
use Rattle.prem_time.specs.Told.{AreTold}
use Rattle.prem_time.proofs.promises.promises_told.Given as goal

abbrev pub invariant-loop-i : goal.invariant-loop-i
invariant-loop-i l = record {
  all : l.all.items ++ promises_told l.devices (drop l.i l.named) (drop l.i l.waits) ≡ promises_told l.devices l.named l.waits;
  rest : AreTold l.devices (drop l.i l.named) (drop l.i l.waits);
}
