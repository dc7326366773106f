use Rattle.std.proofs.Common.{◌-◌}
use Rattle.prem_list.specs.Sequence.{items_of}
use Rattle.prem_machine.specs.States.{state_of}
use Rattle.prem_wave.specs.Calls.{AreCounted}
use Rattle.prem_wave.specs.Header.{header_text}
use Rattle.prem_wave.specs.Names.{device_names, task_names}
use Rattle.prem_wave.proofs.Waved.{IsWaved}
use Rattle.prem_wave.proofs.tracing.wave.Given as goal

abbrev pub invariant-turns : goal.invariant-turns
invariant-turns g l =
    IsWaved l.image l.input l.from l.limit l.at l.stop l.machine (header_text (task_names (items_of l.image.tasks)) (device_names (items_of l.image.devices))) l.dump.text.items l.dump.last.items
    × AreCounted l.sizes.tasks (state_of l.machine).log.intervals l.dump.calls.items

abbrev pub decreases-turns : goal.decreases-turns
decreases-turns g l = l.limit - l.at
