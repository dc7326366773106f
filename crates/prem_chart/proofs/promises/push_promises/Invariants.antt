use Rattle.std.specs.Prelude.{slice_get}
use Rattle.std.specs.Option.{option_map_or}
use Rattle.std.proofs.Common.{◌≡◌, ◌++◌, []}
use Rattle.prem_report.specs.Report.{in_turn}
use Rattle.prem_chart.specs.Promises.{promise_row}
use Rattle.prem_chart.proofs.promises.push_promises.Given as goal

abbrev pub invariant-rows : goal.invariant-rows
invariant-rows l =
    l.text.items ≡ l.initial.text.items ++ in_turn (λ k. option_map_or (promise_row l.sheet l.devices l.requests l.cycles k) (slice_get l.promises k) []) l.row
