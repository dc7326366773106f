-- The answer to `mail SET RUN MAIL`: what the run of a compiled set tells in which devices feed its tasks, or the first rule that the set breaks.
use Rattle.std.specs.Prelude.{ℕ, List, Option, Ok}
use Rattle.prem_lru.specs.Rules.{rule_of}
use Rattle.prem_image.specs.Text.{ImageText}
use Rattle.prem_cycle.specs.State.{MachineState}
use Rattle.prem_cycle.specs.Inputs.{image_setup}
use Rattle.prem_tasks.specs.Compiled.{CompiledText}
use Rattle.prem_command.specs.Words.{MailAsked}
use Rattle.prem_mail.specs.declared.feed.Feed.{Feed}
use Rattle.prem_mail.specs.Delivery.{Delivery, delivered_in}
use Rattle.prem_answer.specs.declared.status.Status.TheVariants.{Done}
use Rattle.prem_answer.specs.Stages.{Reply, Stage}
use Rattle.prem_exec.specs.Forms.{RunText}
use Rattle.prem_exec.specs.Exec.{state_at, stop_at}
use Rattle.prem_exec.specs.Sources.Sources.{reading_set, reading_run}
use Rattle.prem_running.specs.Tellings.{Tells, set_reply}
use Rattle.prem_running.specs.Running.{run_limit}
use Rattle.prem_running.specs.Mail.Files.{reading_mail}
use Rattle.prem_running.specs.Mail.Text.{mailed_text}

-- what is delivered within n cycles of an image
abbrev pub delivered_at : ImageText → RunText → List Feed → ℕ → Delivery
delivered_at i input feeds n = delivered_in (rule_of i.plant.policy) (image_setup i) i.content input.words input.requests feeds n

-- the delivered lists, with the requests of the run file
abbrev pub mailed_input : RunText → Delivery → RunText
mailed_input input d = record { words = d.lists; requests = input.requests }

-- the state after n cycles: that of the run on the delivered lists
abbrev pub mailed_state : ImageText → RunText → List Feed → ℕ → MachineState
mailed_state i input feeds n = state_at i (mailed_input input (delivered_at i input feeds n)) n

abbrev pub mailed_reply : ImageText → RunText → List Feed → ℕ → Reply
mailed_reply i input feeds limit =
    (Done, mailed_text i (delivered_at i input feeds limit) (mailed_state i input feeds limit) (stop_at limit (mailed_state i input feeds limit)))

-- to a compiled set: it runs up to the cycle that the words tell, or the limit of the set
abbrev pub compiled_reply : Option ℕ → RunText → List Feed → CompiledText → Reply
compiled_reply cycles input feeds c = mailed_reply c.image input feeds (run_limit cycles c.limit)

abbrev pub mail_tells : Option ℕ → List Feed → Tells
mail_tells cycles feeds set input c = compiled_reply cycles input feeds c

-- the set and its sources are read, then the run file, then the mail file; the set is judged by all rules, compiled and run
abbrev pub mail_stages : MailAsked → Stage Reply
mail_stages asked =
    reading_set asked.of (λ set. reading_run set asked.run (λ input. reading_mail set asked.mail (λ feeds reads. Ok (set_reply (mail_tells asked.cycles feeds) set input))))
