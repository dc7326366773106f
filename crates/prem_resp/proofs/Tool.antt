-- Each answer may be given and keeps what it promises, and a set is tested where its files are there and in form, and it breaks no rule.
use Rattle.std.proofs.Common.{◌≡◌, ℕ, List, Some, Ok, refl, ap, ◌∙◌, sym}
use Rattle.prem_io.specs.Files.{Files}
use Rattle.prem_answer.specs.declared.answer.Telling.TheVariants.{Brief}
use Rattle.prem_answer.specs.Stages.{Reply, Reads, AreReads, replied}
use Rattle.prem_answer.specs.Tool.{IsTool}
use Rattle.prem_exec.proofs.SourcesLemmas.There.{set_read}
use Rattle.prem_resp.specs.Stages.{fit_stages, judged_reply}
use Rattle.prem_resp.specs.Answer.{Succeeds, fit_tool}
use Rattle.prem_resp.proofs.Headline.{behind_set, fits_keep}
use Rattle.prem_resp.proofs.Stages.{fit_is_fine}

tested : (files : Files) (name : List ℕ) (reply : Reply) (reads : Reads) → AreReads (Some files) reads → Succeeds files name reply → fit_stages name reads ≡ Ok reply
tested files name reply reads are does =
    (set_read Brief files name does.set behind_set reads are does.there).is
    ∙ ap (λ r. Ok (judged_reply does.set r)) does.unbroken
    ∙ ap Ok (sym does.reply_is)

pub is_tool : IsTool fit_tool
is_tool = record { settled = fit_is_fine; kept = λ words name is reads. fits_keep name reads (replied (fit_stages name reads)) refl; complete = tested }
