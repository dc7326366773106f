use Rattle.std.proofs.Common.{ℕ, List, ap, ◌∙◌}
use Rattle.prem_image.specs.Text.{image_text}
use Rattle.prem_compile.specs.CompiledOf.{compiled_of}
use Rattle.prem_answer.specs.Stages.{Reply}
use Rattle.prem_answer.specs.declared.status.Status.TheVariants.{Done}
use Rattle.prem_exec.specs.Sources.Sources.{input_of}
use Rattle.prem_pair_top.specs.Running.{cycles_in, limit_in, run_text}
use Rattle.prem_pair_top.proofs.answer.told_answer.Goals as goal

abbrev done : List ℕ → Reply
done text = (Done, text)

pub returns : goal.returns
returns c =
    let x = c.args.sets.now in
    let i = image_text c.args.one.now.image in
    let j = image_text c.args.two.now.image in
    let options = c.args.asked.now.options in
    ap done
    (c.in_ok-text.ensures
    ∙ ap (run_text i j (input_of x.input.now) (input_of x.other.now) options.intervals)
    (c.cycles_in-limit.ensures.cycles ∙ ap (λ rs. cycles_in options.cycles (limit_in (compiled_of c.args.one.now) (compiled_of c.args.two.now) rs)) c.items.ensures))
