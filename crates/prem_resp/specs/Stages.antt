-- The stages of the work: a set is read and judged by all rules, and its busy periods are found.
use Rattle.std.specs.Prelude.{ℕ, if◌then◌else◌, List, [], ◌∷◌, ◌++◌, Option, None, Some, Ok, codes}
use Rattle.prem_layout.specs.Rules.{Refusal}
use Rattle.prem_tasks.specs.Told.{Told}
use Rattle.prem_tasks.specs.Broken.{TaskText, TaskSet, broken}
use Rattle.prem_tasks.specs.Compiled.{compiled}
use Rattle.prem_answer.specs.declared.answer.Telling.TheVariants.{Brief}
use Rattle.prem_answer.specs.declared.status.Status.TheVariants.{Done, Refused}
use Rattle.prem_answer.specs.Stages.{Reply, Stage}
use Rattle.prem_answer.specs.Tool.{is_file}
use Rattle.prem_answer.specs.Refusal.Texts.{breaker}
use Rattle.prem_exec.specs.Sources.Sources.{reading_set_by}
use Rattle.prem_resp.specs.Lines.{fit_text}
use Rattle.prem_resp.specs.Fits.{loads_in, found_in}
use Rattle.prem_resp.specs.Told.{names_of}

-- ---- a set

-- the task that breaks a rule, and a star where the set as a whole does
abbrev pub refused_text : List TaskText → Refusal Told → List ℕ
refused_text tasks r = codes "refused " ++ (breaker tasks r.task ++ codes "\n")

-- each task of the image with what its jobs take, what blocks them, and its busy period
abbrev pub set_text : TaskSet → List ℕ
set_text set = fit_text (names_of (compiled set).image.tasks) (loads_in set) (found_in (loads_in set))

-- to a set whose first broken rule is this, if it breaks one
abbrev pub judged_reply : TaskSet → Option (Refusal Told) → Reply
judged_reply set None = (Done, set_text set)
judged_reply set (Some r) = (Refused, refused_text set.tasks r)

abbrev pub fit_reply : TaskSet → Reply
fit_reply set = judged_reply set (broken set)

-- the set and its sources are read, and the set is judged
abbrev pub fit_stages : List ℕ → Stage Reply
fit_stages name = reading_set_by Brief name (λ set reads. Ok (fit_reply set))

-- ---- by the words

-- SET
abbrev pub asked_of : List (List ℕ) → Option (List ℕ)
asked_of [] = None
asked_of (word ∷ []) = if is_file word then Some word else None
asked_of (word ∷ other ∷ words) = None
