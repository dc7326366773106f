use Rattle.std.proofs.Common.{◌≡◌, ◌+◌, ◌*◌, ◌++◌, drop}
use Rattle.prem_wave.specs.Header.{devices_text}
use Rattle.prem_wave.specs.Names.{device_names}
use Rattle.prem_wave.proofs.header.push_devices.Given as goal

-- what is left gives what is missing
abbrev pub invariant-devices : goal.invariant-devices
invariant-devices l =
    record {
      signal : l.signal ≡ l.first + 3 * l.device-index;
      text : l.text.items ++ devices_text l.signal (device_names (drop l.device-index l.devices)) ≡ l.initial.text.items ++ devices_text l.first (device_names l.devices);
    }
