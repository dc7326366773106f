-- Each answer may be given, and nothing is said of a set that is there and in form and breaks no rule.
use Rattle.std.proofs.Common.{◌≡◌, ℕ, List, Some, Ok, ap, ◌∙◌, sym}
use Rattle.prem_io.specs.Files.{Files}
use Rattle.prem_answer.specs.declared.answer.Telling.TheVariants.{Whole}
use Rattle.prem_answer.specs.Stages.{Reply, Reads, AreReads}
use Rattle.prem_answer.specs.Tool.{IsTool}
use Rattle.prem_exec.proofs.SourcesLemmas.There.{made_set_read}
use Rattle.prem_lint.specs.Forms.{formed, stated_in}
use Rattle.prem_lint.specs.Answers.{Succeeds, behind_set, judged_reply, lint_stages, lint_tool, source_names}
use Rattle.prem_lint.proofs.Linting.{lint_is_fine}

clean : (files : Files) (name : List ℕ) (reply : Reply) (reads : Reads) → AreReads (Some files) reads → Succeeds files name reply → lint_stages name reads ≡ Ok reply
clean files name reply reads are does =
    let there = does.there in
    (made_set_read Whole files name does.set (stated_in name) (behind_set name) reads there are (ap (formed name there.bytes) there.formed)).is
    ∙ ap (λ first. Ok (judged_reply name (source_names there.stated) does.set first)) does.unbroken
    ∙ ap Ok (sym does.reply_is)

pub is_tool : IsTool lint_tool
is_tool = record { settled = lint_is_fine; kept = λ words name is reads. tt; complete = clean }
