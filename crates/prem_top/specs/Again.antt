-- What `mail` tells is told again by `run`, with a run file of the lists that `mail` tells.
use Rattle.std.specs.Prelude.{◌≡◌, ℕ, false, All, List, ◌++◌, Ok}
use Rattle.prem_io.specs.Files.{Files}
use Rattle.prem_tasks.specs.Broken.{TaskSet}
use Rattle.prem_tasks.specs.Compiled.{compiled}
use Rattle.prem_set.specs.Run.Run.{Gathered, with_words, run_of as lines_of_run}
use Rattle.prem_set.specs.Run.Text.{lists_text}
use Rattle.prem_command.specs.Words.{RunAsked, run, MailAsked}
use Rattle.prem_mail.specs.Delivery.{Delivery}
use Rattle.prem_answer.specs.declared.status.Status.TheVariants.{Done}
use Rattle.prem_exec.specs.Sources.Sources.{names_of, run_limit as run_file_limit}
use Rattle.prem_exec.specs.Sources.There.{IsThere, SetIsThere}
use Rattle.prem_running.specs.Running.{run_limit}
use Rattle.prem_running.specs.Mail.Text.{losses_text}
use Rattle.prem_running.specs.Mail.Again.{AreReadBack}
use Rattle.prem_top.specs.Complete.{Succeeds}

-- `run` is asked for with a set that is there among files, with a file of these bytes, no more than a run file may have, and up to the cycle to which `mail` goes
pub record IsRunWith (files : Files) (asked : MailAsked) (set : TaskSet) (bytes : List ℕ) (again : RunAsked) : Type 0 where
  pub set_there : SetIsThere files again.of set
  pub file : IsThere files run_file_limit again.run bytes
  pub cycles : run_limit again.cycles (compiled set).limit ≡ run_limit asked.cycles (compiled set).limit
  pub plain : again.intervals ≡ false

-- a text tells the delivered lists, the lost values and a report. These lists are read back from the run files that are made of the printed ones and of the
-- requests of the first run file, which has these bytes and gives this; and with each file of which they are read, `run` succeeds with this report
pub record IsToldAgain (asked : MailAsked) (set : TaskSet) (bytes : List ℕ) (g : Gathered) (d : Delivery) (text : List ℕ) : Type 0 where
  pub report : List ℕ
  pub text_is : text ≡ lists_text (names_of set).tasks d.lists ++ (losses_text (compiled set).image.tasks d.lost ++ report)
  pub none_lost : All (λ n. n ≡ 0) d.lost → text ≡ lists_text (names_of set).tasks d.lists ++ report
  pub back : AreReadBack set bytes g d.lists
  pub told : (file : List ℕ) (files : Files) (again : RunAsked) → lines_of_run file (names_of set) ≡ Ok (with_words g d.lists) → IsRunWith files asked set file again →
      Succeeds files (run again) (Done, report)
