use Rattle.std.proofs.Common.{ap, ◌∙◌, List, ℕ}
use Rattle.prem_answer.specs.Stages.{Reply}
use Rattle.prem_answer.specs.declared.status.Status.TheVariants.{Done}
use Rattle.prem_top.specs.One.Answer.{run_text}
use Rattle.prem_top.proofs.one.run.OneRunnerTeller.tell.Goals as goal

abbrev done : List ℕ → Reply
done text = (Done, text)

pub returns : goal.returns
returns g c = ap done (c.in_ok-machine_text.ensures ∙ ap run_text c.in_ok-machine.ensures.state)
