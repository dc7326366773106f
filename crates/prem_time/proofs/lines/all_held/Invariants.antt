use Rattle.std.proofs.Common.{◌≡◌, drop}
use Rattle.prem_time.specs.Devices.{all_held}
use Rattle.prem_time.specs.Told.{AreTold, devices_told}
use Rattle.prem_time.proofs.lines.all_held.Given as goal

abbrev pub invariant-loop-i : goal.invariant-loop-i
invariant-loop-i l = record {
  held : all_held (devices_told l.devices (drop l.i l.named) (drop l.i l.waits)) ≡ all_held (devices_told l.devices l.named l.waits);
  rest : AreTold l.devices (drop l.i l.named) (drop l.i l.waits);
}
