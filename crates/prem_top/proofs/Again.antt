-- What `mail` tells is told again by `run`.
use Rattle.std.proofs.Common.{◌≡◌, ℕ, Bool, false, List, ◌++◌, None, Ok, refl, ap, subst, ◌∙◌}
use Rattle.prem_io.specs.Files.{Files}
use Rattle.prem_tasks.specs.Broken.{TaskSet, broken}
use Rattle.prem_tasks.specs.Compiled.{compiled}
use Rattle.prem_sets_sound.specs.ImagePremises.Accepted.{HasValues}
use Rattle.prem_set.specs.Run.Names.{KnownNames}
use Rattle.prem_set.specs.Run.Run.{Gathered, with_words, run_of as lines_of_run}
use Rattle.prem_set.specs.Run.Text.{lists_text}
use Rattle.prem_command.specs.Words.{RunAsked, run, MailAsked}
use Rattle.prem_mail.specs.declared.feed.Feed.{Feed}
use Rattle.prem_answer.specs.declared.status.Status.TheVariants.{Done}
use Rattle.prem_answer.specs.Stages.{Reply}
use Rattle.prem_exec.specs.Exec.{run_reply}
use Rattle.prem_exec.specs.Sources.Sources.{names_of}
use Rattle.prem_exec.specs.Sources.There.{RunIsThere, run_text_of}
use Rattle.prem_running.specs.Running.{run_limit, compiled_reply}
use Rattle.prem_running.specs.Mail.Mail.{delivered_at, mailed_input, compiled_reply as mailed_reply}
use Rattle.prem_running.specs.Mail.Text.{losses_text, lists_text as printed_lists}
use Rattle.prem_running.proofs.SetLawsLemmas.Names.{names_are_kept}
use Rattle.prem_running.proofs.MailLemmas.Lines.{lists_are_lines, no_losses}
use Rattle.prem_running.proofs.MailLemmas.Again.{deliveries_are_read_back}
use Rattle.prem_top.specs.Complete.{Succeeds, run_succeeds}
use Rattle.prem_top.specs.Again.{IsRunWith, IsToldAgain}

-- a run with a file that gives this
run_again : (files : Files) (asked : MailAsked) (set : TaskSet) (bytes : List ℕ) (again : RunAsked) (g : Gathered) →
    lines_of_run bytes (names_of set) ≡ Ok g → IsRunWith files asked set bytes again → broken set ≡ None →
    Succeeds files (run again) (Done, (run_reply (compiled set).image (run_text_of g) false (run_limit asked.cycles (compiled set).limit)).1)
run_again files asked set bytes again g is asks none =
    let c = compiled set in
    let there : RunIsThere files set again.run (run_text_of g) = record { bytes = bytes; file = asks.file; lines = g; formed = is; input_is = refl } in
    let same : compiled_reply again (run_text_of g) c ≡ (Done, (run_reply c.image (run_text_of g) false (run_limit asked.cycles c.limit)).1) =
    ap (λ (times : Bool). (Done, (run_reply c.image (run_text_of g) times (run_limit again.cycles c.limit)).1)) asks.plain
    ∙ ap (λ (limit : ℕ). (Done, (run_reply c.image (run_text_of g) false limit).1)) asks.cycles in
    subst (λ (reply : Reply). Succeeds files (run again) reply) same (run_succeeds asks.set_there there none)

-- the text of a run with feeds, where what the run file gives is known
pub told_again : (asked : MailAsked) (set : TaskSet) (bytes : List ℕ) (g : Gathered) (feeds : List Feed) (text : List ℕ) → HasValues set →
    broken set ≡ None → lines_of_run bytes (names_of set) ≡ Ok g →
    text ≡ (mailed_reply asked.cycles (run_text_of g) feeds (compiled set)).1 →
    IsToldAgain asked set bytes g (delivered_at (compiled set).image (run_text_of g) feeds (run_limit asked.cycles (compiled set).limit)) text
told_again asked set bytes g feeds text values none formed told =
    let c = compiled set in
    let n = run_limit asked.cycles c.limit in
    let d = delivered_at c.image (run_text_of g) feeds n in
    let report : List ℕ = (run_reply c.image (mailed_input (run_text_of g) d) false n).1 in
    let lines : printed_lists c.image.tasks d.lists ≡ lists_text (names_of set).tasks d.lists =
    lists_are_lines c.image.tasks d.lists ∙ ap (λ (names : KnownNames). lists_text names.tasks d.lists) (names_are_kept set none) in
    let whole : text ≡ lists_text (names_of set).tasks d.lists ++ (losses_text c.image.tasks d.lost ++ report) =
    told ∙ ap (λ (t : List ℕ). t ++ (losses_text c.image.tasks d.lost ++ report)) lines in
    record {
      report = report;
      text_is = whole;
      none_lost = λ all. whole ∙ ap (λ (t : List ℕ). lists_text (names_of set).tasks d.lists ++ (t ++ report)) (no_losses c.image.tasks d.lost all);
      back = deliveries_are_read_back set bytes g feeds n values none formed;
      told = λ file files again read asks. run_again files asked set file again (with_words g d.lists) read asks none;
    }
