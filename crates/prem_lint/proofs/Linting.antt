-- Each answer may be given.
use Rattle.std.proofs.Common.{ℕ, List, Option, None, Some, refl}
use Rattle.prem_syntax.specs.Syntax.{Text}
use Rattle.prem_layout.specs.Rules.{Refusal}
use Rattle.prem_tasks.specs.Told.{Told}
use Rattle.prem_tasks.specs.Broken.{TaskSet, broken}
use Rattle.prem_set.specs.SetFile.{set_of}
use Rattle.prem_answer.specs.declared.answer.Telling.TheVariants.{Whole}
use Rattle.prem_answer.specs.Stages.{Reads, IsFine}
use Rattle.prem_answer.specs.Tool.{IsSettled}
use Rattle.prem_answer.proofs.Reading.{reading_fine}
use Rattle.prem_exec.proofs.SourcesLemmas.Fine.{sources_fine}
use Rattle.prem_lint.specs.Forms.{set_limit, stated_in}
use Rattle.prem_lint.specs.Answers.{behind_file, behind_set, judged_reply, lint_stages, source_names}
use Rattle.prem_lint.proofs.Stated.{formed_fine}

judged_fine : (name : List ℕ) (sources : List Text) (set : TaskSet) (first : Option (Refusal Told)) → IsSettled (judged_reply name sources set first)
judged_fine name sources set None = refl
judged_fine name sources set (Some refusal) = refl

pub lint_is_fine : (name : List ℕ) (reads : Reads) → IsFine IsSettled (lint_stages name reads)
lint_is_fine name reads =
    reading_fine IsSettled set_limit name (stated_in name) (behind_file name)
    (λ bytes. formed_fine name bytes (set_of bytes))
    (λ s rest. sources_fine IsSettled Whole s (behind_set name s) (λ set more. judged_fine name (source_names s) set (broken set)) rest) reads
