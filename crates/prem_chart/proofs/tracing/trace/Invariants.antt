use Rattle.std.proofs.Common.{◌-◌}
use Rattle.prem_chart.proofs.Traces.{IsTraced}
use Rattle.prem_chart.proofs.tracing.trace.Given as goal

abbrev pub invariant-turns : goal.invariant-turns
invariant-turns g l = IsTraced l.image l.input l.limit l.at l.stop l.machine l.notes.items

abbrev pub decreases-turns : goal.decreases-turns
decreases-turns g l = l.limit - l.at
