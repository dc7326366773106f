use Rattle.std.proofs.Common.{◌≡◌, ◌++◌, drop, map}
use Rattle.prem_line.specs.Spelled.{ended}
use Rattle.prem_time.specs.Lines.{device_line}
use Rattle.prem_time.specs.Told.{AreTold, devices_told}
use Rattle.prem_time.proofs.lines.push_devices.Given as goal

abbrev pub invariant-loop-i : goal.invariant-loop-i
invariant-loop-i l = record {
  text : l.text.items ++ ended (map device_line (devices_told l.devices (drop l.i l.named) (drop l.i l.waits))) ≡ l.initial.text.items
      ++ ended (map device_line (devices_told l.devices l.named l.waits));
  rest : AreTold l.devices (drop l.i l.named) (drop l.i l.waits);
}
