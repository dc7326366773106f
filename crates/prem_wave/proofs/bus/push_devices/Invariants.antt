use Rattle.std.proofs.Common.{◌≡◌, ◌++◌}
use Rattle.prem_machine.specs.Parts.{state_of}
use Rattle.prem_wave.specs.Signals.{device_values, each}
use Rattle.prem_wave.proofs.bus.push_devices.Given as goal

abbrev pub invariant-devices : goal.invariant-devices
invariant-devices g l = l.values.items ≡ l.initial.values.items ++ each (device_values l.on (state_of l.parts)) l.d
