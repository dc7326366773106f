use Rattle.std.proofs.Common.{◌≡◌, ◌++◌, drop}
use Rattle.prem_list.specs.Sequence.{items_of}
use Rattle.prem_annotate_answer.proofs.noted.copy_devices.Given as goal

abbrev pub invariant-loop-device : goal.invariant-loop-device
invariant-loop-device l = items_of l.list ++ drop l.device-index l.devices ≡ l.devices
