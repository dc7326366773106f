use Rattle.std.proofs.Common.{◌≡◌, ◌++◌}
use Rattle.prem_report.specs.Report.{in_turn}
use Rattle.prem_chart.specs.Rows.{release_shown}
use Rattle.prem_chart.proofs.rows.push_jobs.Given as goal

abbrev pub invariant-jobs : goal.invariant-jobs
invariant-jobs l = l.text.items ≡ l.initial.text.items ++ in_turn (release_shown l.sheet l.k l.task.name l.task.period) l.job
