use Rattle.std.proofs.Common.{◌≡◌, replicate}
use Rattle.prem_wave.proofs.calls.no_calls.Given as goal

abbrev pub invariant-tasks : goal.invariant-tasks
invariant-tasks l = l.calls.items ≡ replicate l.counter 0
