use Rattle.std.proofs.Common.{ap, ◌∙◌}
use Rattle.prem_image.specs.Text.{image_text}
use Rattle.prem_cycle.specs.State.{MachineState}
use Rattle.prem_cycle.specs.FactsOf.{report_of, report_in}
use Rattle.prem_report.specs.Report.{report_text}
use Rattle.prem_exec.specs.Exec.{input_of, state_at}
use Rattle.prem_exec.proofs.Stages.{told_is}
use Rattle.prem_exec.proofs.run.answer_under.Goals as goal

pub returns : goal.returns
returns g c =
    let i = image_text c.args.image.now in
    let s = state_at i (input_of c.args.input.now) c.args.limit in
    let stop = c.in_ok-machine.stop in
    let state = c.in_ok-machine.ensures.state in
    let text = c.in_ok-text.ensures
    ∙ ap (λ ts. report_text ts c.items-2.result.now c.args.times c.now.result (report_in c.facts.result.now) stop) c.items.ensures
    ∙ ap (λ ds. report_text i.tasks ds c.args.times c.now.result (report_in c.facts.result.now) stop) c.items-2.ensures in
    told_is i c.args.times c.args.limit s stop _ _ _ _ c.in_ok-machine.ensures.stop c.stop_status.ensures
    (c.now.ensures ∙ ap (λ (x : MachineState). x.now) state) (c.facts.ensures ∙ ap report_of state) text
