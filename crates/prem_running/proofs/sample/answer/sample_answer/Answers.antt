use Rattle.std.specs.Prelude.{Ok}
use Rattle.std.proofs.Common.{◌≡◌, subst}
use Rattle.prem_tasks.specs.Broken.{TaskSet}
use Rattle.prem_tasks.specs.SetOf.{set_of}
use Rattle.prem_answer.specs.Stages.{Comes, reply_of}
use Rattle.prem_exec.specs.Forms.{RunText}
use Rattle.prem_exec.specs.Exec.{input_of}
use Rattle.prem_running.specs.Tellings.{set_reply}
use Rattle.prem_running.specs.Sample.Sample.{sample_tells}
use Rattle.prem_running.specs.Sample.Trace.{sample_set}
use Rattle.prem_running.proofs.SampleLemmas.Lawful.{sample_is_lawful}
use Rattle.prem_running.proofs.sample.answer.sample_answer.Goals as goal

pub tell_set-requires-clause-lawful : goal.tell_set-requires-clause-lawful
tell_set-requires-clause-lawful c =
    let s = c.in_ok-sample.sample in
    sample_is_lawful (set_of s.set) s.input c.args.seed c.in_ok-sample.ensures.set c.in_ok-sample.ensures.input

pub returns-clause-answer : goal.returns-clause-answer
returns-clause-answer c =
    let tells = sample_tells c.args.seed in
    let s = c.in_ok-sample.sample in
    subst (λ (input : RunText). Comes reply_of (λ given. given ≡ Ok (set_reply tells (sample_set c.args.seed) input)) c.tell_set.result) c.in_ok-sample.ensures.input
    (subst (λ (set : TaskSet). Comes reply_of (λ given. given ≡ Ok (set_reply tells set (input_of s.input))) c.tell_set.result) c.in_ok-sample.ensures.set c.tell_set.ensures.answer)
