-- Each answer may be given, and a task's text is written where its set is there and in form, and no rule stands against it.
use Rattle.std.proofs.Common.{◌≡◌, ℕ, List, Option, None, Some, Ok, refl, ap, ◌∙◌, sym}
use Rattle.prem_io.specs.Files.{Files}
use Rattle.prem_layout.specs.Rules.{Refusal}
use Rattle.prem_tasks.specs.Told.{Told}
use Rattle.prem_tasks.specs.Broken.{TaskSet}
use Rattle.prem_answer.specs.declared.answer.Telling.TheVariants.{Whole}
use Rattle.prem_answer.specs.Stages.{Reply, Reads, AreReads, IsFine, replied}
use Rattle.prem_answer.specs.Tool.{IsSettled, IsTool}
use Rattle.prem_answer.specs.Refusal.Texts.{refused_reply}
use Rattle.prem_exec.proofs.SourcesLemmas.Fine.{set_fine}
use Rattle.prem_exec.proofs.SourcesLemmas.There.{set_read}
use Rattle.prem_annotate.specs.Writing.Text.{annotated_text}
use Rattle.prem_annotate_answer.specs.Written.{text_named, written, unannotated, IsAnnotated}
use Rattle.prem_annotate_answer.specs.Answers.{Asked, Succeeds, annotate_stages, annotate_tool, behind_set, found_reply, judged_reply, text_reply}
use Rattle.prem_annotate_answer.proofs.Annotated.{none_stands}
use Rattle.prem_annotate_answer.proofs.Promise.{annotations_keep}

-- ---- the answer to a set

pub told_is : (task : List ℕ) (set new : TaskSet) (reply : Reply) → IsAnnotated annotated_text set new →
    reply ≡ text_reply task (text_named task new.tasks) → reply ≡ judged_reply task set (unannotated annotated_text set)
told_is task set new reply is told =
    told ∙ ap (λ (s : TaskSet). text_reply task (text_named task s.tasks)) is.written_is ∙ ap (judged_reply task set) (sym (none_stands annotated_text set new is))

pub refused_is : (task : List ℕ) (set : TaskSet) (refusal : Refusal Told) (reply : Reply) → unannotated annotated_text set ≡ Some refusal →
    reply ≡ refused_reply set.tasks refusal → reply ≡ judged_reply task set (unannotated annotated_text set)
refused_is task set refusal reply is told = told ∙ ap (judged_reply task set) (sym is)

-- ---- answers that may be given

text_fine : (task : List ℕ) (text : Option (List ℕ)) → IsSettled (text_reply task text)
text_fine task None = refl
text_fine task (Some text) = refl

judged_fine : (task : List ℕ) (set : TaskSet) (first : Option (Refusal Told)) → IsSettled (judged_reply task set first)
judged_fine task set None = text_fine task (text_named task (written annotated_text set).tasks)
judged_fine task set (Some refusal) = refl

found_fine : (task : List ℕ) (set : TaskSet) (text : Option (List ℕ)) → IsSettled (found_reply task set text)
found_fine task set None = refl
found_fine task set (Some text) = judged_fine task set (unannotated annotated_text set)

annotate_is_fine : (a : Asked) (reads : Reads) → IsFine IsSettled (annotate_stages a reads)
annotate_is_fine a reads = set_fine IsSettled a.set (behind_set a.task) (λ set more. found_fine a.task set (text_named a.task set.tasks)) reads

-- ---- the program

succeeds : (files : Files) (a : Asked) (reply : Reply) (reads : Reads) → AreReads (Some files) reads → Succeeds files a reply → annotate_stages a reads ≡ Ok reply
succeeds files a reply reads are does =
    (set_read Whole files a.set does.set (behind_set a.task) reads are does.there).is
    ∙ ap (λ (o : Option (List ℕ)). Ok (found_reply a.task does.set o)) does.has_task
    ∙ ap (λ (o : Option (Refusal Told)). Ok (judged_reply a.task does.set o)) does.unbroken
    ∙ ap Ok (sym does.reply_is)

pub is_tool : IsTool annotate_tool
is_tool = record { settled = annotate_is_fine; kept = λ words asked is reads. annotations_keep asked reads (replied (annotate_stages asked reads)) refl; complete = succeeds }
