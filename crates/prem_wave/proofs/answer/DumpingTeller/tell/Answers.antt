use Rattle.std.proofs.Common.{ap, ◌∙◌, List, ℕ}
use Rattle.std.specs.Prelude.{unwrap_or}
use Rattle.prem_image.specs.Text.{image_text}
use Rattle.prem_command.specs.Chart.{chart_asked}
use Rattle.prem_answer.specs.declared.status.Status.TheVariants.{Done}
use Rattle.prem_answer.specs.Stages.{Reply}
use Rattle.prem_exec.specs.Sources.Sources.{input_of}
use Rattle.prem_wave.specs.Answer.{image_wave}
use Rattle.prem_wave.proofs.answer.DumpingTeller.tell.Goals as goal

abbrev done : List ℕ → Reply
done text = (Done, text)

pub returns : goal.returns
returns g c =
    ap done c.in_ok-wave.ensures
    ∙ ap (λ n. done (image_wave n (image_text c.args.compiled.now.image) (input_of c.args.input.now) c.run_limit-limit.result)) c.unwrap_or-from.ensures
    ∙ ap (λ n. done (image_wave (unwrap_or (chart_asked c.args.self.now.asked.now).from_cycle 0) (image_text c.args.compiled.now.image) (input_of c.args.input.now) n))
    c.run_limit-limit.ensures.limit
