-- The answers to `check SET`, `build SET` and `list SET` may be given.
use Rattle.std.proofs.Common.{ℕ, List, Option, None, Some, Ok, refl}
use Rattle.prem_layout.specs.Rules.{Refusal}
use Rattle.prem_tasks.specs.Told.{Told}
use Rattle.prem_tasks.specs.Broken.{TaskSet, broken}
use Rattle.prem_answer.specs.Stages.{Reply, Reads, Stage, IsFine}
use Rattle.prem_answer.specs.Tool.{IsSettled}
use Rattle.prem_exec.proofs.SourcesLemmas.Fine.{set_fine}
use Rattle.prem_build.specs.declared.sheet.Sheet.{Sheet}
use Rattle.prem_build.specs.Build.{compiled_reply, judged_reply, sheet_stages}

abbrev pub behind_set : Sheet → TaskSet → Stage Reply
behind_set sheet set reads = Ok (compiled_reply sheet set)

-- ---- answers that may be given

judged_fine : (sheet : Sheet) (set : TaskSet) (first : Option (Refusal Told)) → IsSettled (judged_reply sheet set first)
judged_fine sheet set None = refl
judged_fine sheet set (Some refusal) = refl

pub sheet_is_fine : (sheet : Sheet) (name : List ℕ) (reads : Reads) → IsFine IsSettled (sheet_stages sheet name reads)
sheet_is_fine sheet name reads =
    set_fine IsSettled name (behind_set sheet) (λ set more. judged_fine sheet set (broken set)) reads
