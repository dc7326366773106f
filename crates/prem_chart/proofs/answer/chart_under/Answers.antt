use Rattle.std.specs.Prelude.{IfOk}
use Rattle.std.proofs.Common.{◌≡◌, subst, ◌∙◌}
use Rattle.prem_image.specs.Text.{image_text}
use Rattle.prem_cycle.specs.FactsOf.{report_in}
use Rattle.prem_machine.specs.States.{state_of}
use Rattle.prem_command.specs.Chart.{chart_asked}
use Rattle.prem_exec.specs.Sources.Sources.{input_of}
use Rattle.prem_exec.proofs.Stages.{stop_is}
use Rattle.prem_chart.proofs.Charted.{picture_is}
use Rattle.prem_chart.proofs.answer.chart_under.Goals as goal

pub returns : goal.returns
returns g c =
    let t = c.in_ok-traced.traced in
    let noted = c.in_ok-traced.ensures in
    let s = state_of t.machine in
    let is = picture_is (chart_asked c.args.asked.now) (image_text c.args.image.now) (input_of c.args.input.now)
    c.args.promises.now c.args.limit s c.view_of.result c.items.result.now c.items-2.result.now
    (report_in c.facts.result.now) c.now-cycles.result t.stop c.deref.result.now c.items-3.result.now c.view_of.ensures.is c.items.ensures c.items-2.ensures c.facts.ensures c.now-cycles.ensures
    (stop_is t.stop c.args.limit s noted.stop) (c.deref.ensures.value ∙ noted.notes) c.items-3.ensures noted.state in
    subst (λ x. IfOk c.chart.result (λ text. text.items ≡ x)) is c.chart.ensures.picture
