-- Each answer may be given, and is the one to a set and a run file that are there and in form.
use Rattle.std.proofs.Common.{ℕ, List, Option, None, Some, Ok, refl, ap, ◌∙◌, sym}
use Rattle.prem_answer.specs.Tool.{IsSettled, IsTool}
use Rattle.prem_running.proofs.Tellings.{told_fine, told_there}
use Rattle.prem_chart.specs.Answer.{chart_tells, chart_tool, reply_by}

reply_fine : (unknown stray : Option (List ℕ)) (picture : List ℕ) → IsSettled (reply_by unknown stray picture)
reply_fine (Some name) stray picture = refl
reply_fine None (Some name) picture = refl
reply_fine None None picture = refl

pub is_tool : IsTool chart_tool
is_tool = record {
  settled = λ asked reads. told_fine (chart_tells asked) asked.chart.set asked.chart.run (λ set input c. reply_fine _ _ _) reads;
  kept = λ words asked is reads. tt;
  complete = λ files asked reply reads are does.
      told_there (chart_tells asked) files asked.chart.set asked.chart.run does.set does.input reads are does.there does.run_there does.unbroken ∙ ap Ok (sym does.reply_is);
}
