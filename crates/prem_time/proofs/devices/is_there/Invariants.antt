use Rattle.std.proofs.Common.{◌≡◌, drop}
use Rattle.prem_tasks.specs.Lawful.{device_names, has_name}
use Rattle.prem_time.proofs.devices.is_there.Given as goal

abbrev pub invariant-loop-device : goal.invariant-loop-device
invariant-loop-device l = has_name l.name (device_names (drop l.device-index l.devices)) ≡ has_name l.name (device_names l.devices)
