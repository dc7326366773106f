use Rattle.std.specs.Prelude.{slice_get}
use Rattle.std.specs.Option.{option_map_or}
use Rattle.std.proofs.Common.{◌≡◌, ◌++◌, []}
use Rattle.prem_report.specs.Report.{in_turn}
use Rattle.prem_chart.specs.Rows.{task_label}
use Rattle.prem_chart.proofs.rows.push_task_labels.Given as goal

abbrev pub invariant-labels : goal.invariant-labels
invariant-labels l = l.text.items ≡ l.initial.text.items ++ in_turn (λ k. option_map_or (task_label l.sheet k) (slice_get l.tasks k) []) l.k
