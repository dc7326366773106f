use Rattle.std.specs.Prelude.{slice_index}
use Rattle.std.proofs.Common.{◌≡◌, ◌++◌}
use Rattle.prem_machine.specs.Parts.{state_of}
use Rattle.prem_wave.specs.Signals.{each, task_values_with}
use Rattle.prem_wave.proofs.doing.push_tasks.Given as goal

abbrev pub invariant-tasks : goal.invariant-tasks
invariant-tasks g l =
    l.values.items ≡ l.initial.values.items ++ each (λ k. task_values_with l.switch (state_of l.parts) (slice_index l.calls k) k) l.k
