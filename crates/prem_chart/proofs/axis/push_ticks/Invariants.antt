use Rattle.std.specs.Prelude.{◌*◌}
use Rattle.std.proofs.Common.{◌≡◌, ◌++◌, ◌+◌}
use Rattle.prem_report.specs.Report.{in_turn}
use Rattle.prem_chart.specs.Axis.{multiples_before, tick_shown}
use Rattle.prem_chart.proofs.axis.push_ticks.Given as goal

abbrev pub invariant-ticks : goal.invariant-ticks
invariant-ticks l =
    l.text.items ≡ l.initial.text.items ++ in_turn (λ k. tick_shown l.sheet ((multiples_before l.step l.sheet.view.first + k) * l.step)) l.k
