use Rattle.std.proofs.Common.{ap, ◌∙◌}
use Rattle.prem_image.specs.Text.{image_text}
use Rattle.prem_cycle.specs.State.{MachineState}
use Rattle.prem_cycle.specs.FactsOf.{report_of, report_in}
use Rattle.prem_exec.specs.Exec.{input_of, state_at}
use Rattle.prem_running.specs.Sample.Sample.{sample_text}
use Rattle.prem_running.proofs.SampleLemmas.Told.{run_is}
use Rattle.prem_running.proofs.sample.answer.SamplerTeller.tell.Goals as goal

pub returns : goal.returns
returns g c =
    let seed = c.args.self.now.seed in
    let limit = c.args.compiled.now.limit in
    let i = image_text c.args.compiled.now.image in
    let s = state_at i (input_of c.args.input.now) limit in
    let stop = c.in_ok-machine.stop in
    let state = c.in_ok-machine.ensures.state in
    let text = c.in_ok-text.ensures
    ∙ ap (λ ts. sample_text seed ts c.items-2.result.now c.now.result (report_in c.facts.result.now) stop) c.items.ensures
    ∙ ap (λ ds. sample_text seed i.tasks ds c.now.result (report_in c.facts.result.now) stop) c.items-2.ensures in
    run_is seed i limit s stop _ _ _ c.in_ok-machine.ensures.stop
    (c.now.ensures ∙ ap (λ (x : MachineState). x.now) state) (c.facts.ensures ∙ ap report_of state) text
