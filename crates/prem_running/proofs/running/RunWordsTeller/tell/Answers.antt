use Rattle.std.proofs.Common.{ap, ◌∙◌}
use Rattle.prem_image.specs.Text.{image_text}
use Rattle.prem_answer.specs.Stages.{Reply}
use Rattle.prem_answer.specs.declared.status.Status.TheVariants.{Done}
use Rattle.prem_exec.specs.Exec.{run_reply}
use Rattle.prem_exec.specs.Sources.Sources.{input_of}
use Rattle.prem_running.proofs.running.RunWordsTeller.tell.Goals as goal

abbrev done : Reply → Reply
done reply = (Done, reply.1)

pub returns : goal.returns
returns g c =
    ap done c.in_ok-answer.ensures
    ∙ ap (λ n. done (run_reply (image_text c.args.compiled.now.image) (input_of c.args.input.now) c.args.self.now.intervals n)) c.run_limit-limit.ensures.limit
