use Rattle.std.specs.Prelude.{slice_get}
use Rattle.std.specs.Option.{option_map_or}
use Rattle.std.proofs.Common.{◌≡◌, ◌++◌, []}
use Rattle.prem_report.specs.Report.{in_turn, task_name}
use Rattle.prem_set.specs.Run.Text.{list_line}
use Rattle.prem_running.proofs.mail.text.push_lists.Given as goal

abbrev pub invariant-tasks : goal.invariant-tasks
invariant-tasks g l =
    l.text.items ≡ l.initial.text.items ++ in_turn (λ k. option_map_or (list_line (task_name l.tasks k)) (slice_get l.mail.mailed.mail.lists k) []) l.k
