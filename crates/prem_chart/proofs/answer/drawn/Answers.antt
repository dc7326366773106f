use Rattle.std.proofs.Common.{ap, ◌∙◌, List, ℕ}
use Rattle.prem_image.specs.Text.{image_text}
use Rattle.prem_tasks.specs.SetOf.{set_of}
use Rattle.prem_command.specs.Chart.{chart_asked}
use Rattle.prem_answer.specs.declared.status.Status.TheVariants.{Done}
use Rattle.prem_answer.specs.Stages.{Reply}
use Rattle.prem_exec.specs.Sources.Sources.{input_of}
use Rattle.prem_time.specs.declared.words.Distance.{Distance as DistanceIn}
use Rattle.prem_time.specs.declared.promises.Promise.{Promise}
use Rattle.prem_time.specs.Asked.{distances_in}
use Rattle.prem_chart.specs.Answer.{image_chart, promised}
use Rattle.prem_chart.proofs.answer.drawn.Goals as goal

abbrev done : List ℕ → Reply
done text = (Done, text)

pub returns : goal.returns
returns g c =
    let chart = chart_asked c.args.asked.now.chart in
    let image = image_text c.args.compiled.now.image in
    let input = input_of c.args.input.now in
    let set = set_of c.args.set.now in
    ap done c.in_ok-text.ensures
    ∙ ap (λ (ps : List Promise). done (image_chart chart image input ps c.run_limit-limit.result)) (c.deref-2.ensures.value ∙ c.in_ok-promises.ensures.promises)
    ∙ ap (λ (ds : List DistanceIn). done (image_chart chart image input (promised set (distances_in ds)) c.run_limit-limit.result)) c.deref.ensures.value
    ∙ ap (λ (n : ℕ). done (image_chart chart image input (promised set (distances_in c.args.asked.now.distances.items)) n)) c.run_limit-limit.ensures.limit
