-- Each answer may be given and keeps what it promises, and the times of a set are told where its files are there and in form, and it breaks no rule.
use Rattle.std.proofs.Common.{◌≡◌, Some, Ok, refl, ap, ◌∙◌, sym}
use Rattle.prem_io.specs.Files.{Files}
use Rattle.prem_answer.specs.declared.answer.Telling.TheVariants.{Whole}
use Rattle.prem_answer.specs.Stages.{Reply, Reads, AreReads, replied}
use Rattle.prem_answer.specs.Tool.{IsTool}
use Rattle.prem_exec.proofs.SourcesLemmas.There.{set_read}
use Rattle.prem_time.specs.Words.{Asked}
use Rattle.prem_time.specs.Stages.{found_reply, judged_reply, set_text, time_stages}
use Rattle.prem_time.specs.Answer.{Succeeds, time_tool}
use Rattle.prem_time.proofs.Headline.{behind_set, times_keep}
use Rattle.prem_time.proofs.Stages.{time_is_fine}
use Rattle.prem_time.proofs.WordsAre.{asked_are}

told : (files : Files) (asked : Asked) (reply : Reply) (reads : Reads) → AreReads (Some files) reads → Succeeds files asked reply → time_stages asked reads ≡ Ok reply
told files asked reply reads are does =
    (set_read Whole files asked.set does.set (behind_set asked.distances) reads are does.there).is
    ∙ ap (λ r. Ok (judged_reply asked.distances does.set r)) does.unbroken
    ∙ ap (λ o. Ok (found_reply o (set_text asked.distances does.set))) does.known
    ∙ ap Ok (sym does.reply_is)

pub is_tool : IsTool time_tool
is_tool = record {
  settled = time_is_fine;
  kept = λ words asked is reads. times_keep asked reads (replied (time_stages asked reads)) (asked_are words asked is) refl;
  complete = told;
}
