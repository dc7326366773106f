use Rattle.std.specs.Prelude.{slice_get}
use Rattle.std.specs.Option.{option_map_or}
use Rattle.std.proofs.Common.{◌≡◌, ◌++◌, []}
use Rattle.prem_report.specs.Report.{in_turn}
use Rattle.prem_chart.specs.Rows.{releases_text}
use Rattle.prem_chart.proofs.rows.push_releases.Given as goal

abbrev pub invariant-tasks : goal.invariant-tasks
invariant-tasks l = l.text.items ≡ l.initial.text.items ++ in_turn (λ k. option_map_or (releases_text l.sheet k) (slice_get l.tasks k) []) l.k
