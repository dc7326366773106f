use Rattle.std.proofs.Common.{ap, ◌∙◌, List, ℕ, map}
use Rattle.prem_image.specs.Text.{image_text}
use Rattle.prem_answer.specs.declared.status.Status.TheVariants.{Done}
use Rattle.prem_answer.specs.Stages.{Reply}
use Rattle.prem_exec.specs.Sources.Sources.{input_of}
use Rattle.prem_profile.specs.Strips.{strip_of}
use Rattle.prem_profile.specs.Answer.{image_profile}
use Rattle.prem_profile.proofs.answer.ProfilingTeller.tell.Goals as goal

abbrev done : List ℕ → Reply
done text = (Done, text)

pub returns : goal.returns
returns g c =
    let sources = c.args.self.now.sources.now in
    let i = image_text c.args.compiled.now.image in
    let input = input_of c.args.input.now in
    let strips = ap (map strip_of) c.deref.ensures.value ∙ c.in_ok-strips.ensures in
    let limit = c.run_limit-limit.ensures.limit in
    ap done c.in_ok-text.ensures ∙ (λ j. done (image_profile sources (strips j) i input (limit j)))
