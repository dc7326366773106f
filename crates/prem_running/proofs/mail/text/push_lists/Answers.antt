use Rattle.std.specs.Prelude.{slice_get}
use Rattle.std.specs.Option.{option_map_or}
use Rattle.std.proofs.Common.{◌≡◌, ◌++◌, ◌∙◌, ℕ, List, [], length, ap, arith}
use Rattle.prem_report.specs.Report.{in_turn, task_name}
use Rattle.prem_set.specs.Run.Text.{list_line}
use Rattle.prem_running.proofs.mail.text.push_lists.Goals as goal

pub returns : goal.returns
returns g c =
    let all : c.tasks.k ≡ length c.args.tasks.now = omega (arith, c.tasks-test.false, c.tasks.auto.k-end) in
    let f : ℕ → List ℕ = λ k. option_map_or (list_line (task_name c.args.tasks.now k)) (slice_get c.args.mail.now.mailed.mail.lists k) [] in
    c.tasks.invariant ∙ ap (λ (n : ℕ). c.args.text.now.items ++ in_turn f n) all
