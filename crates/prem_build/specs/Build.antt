-- The answers to `check SET`, `build SET` and `list SET`: what is told of a compiled set.
use Rattle.std.specs.Prelude.{List, ℕ, Option, None, Some, Ok}
use Rattle.prem_layout.specs.Rules.{Refusal}
use Rattle.prem_tasks.specs.Told.{Told}
use Rattle.prem_tasks.specs.Broken.{TaskSet, broken}
use Rattle.prem_tasks.specs.Compiled.{CompiledText, compiled}
use Rattle.prem_imagefile.specs.Spelling.{image_bytes}
use Rattle.prem_answer.specs.declared.status.Status.TheVariants.{Done}
use Rattle.prem_answer.specs.Stages.{Reply, Stage}
use Rattle.prem_answer.specs.Refusal.Texts.{refused_reply}
use Rattle.prem_exec.specs.Sources.Sources.{reading_set}
use Rattle.prem_build.specs.Tables.Check.{check_text}
use Rattle.prem_build.specs.Tables.Listing.{list_text}
use Rattle.prem_build.specs.declared.sheet.Sheet.{Sheet}
use Rattle.prem_build.specs.declared.sheet.Sheet.TheVariants.{Bounds, Image, Listing}

abbrev pub sheet_text : Sheet → CompiledText → List ℕ
sheet_text Bounds c = check_text c
sheet_text Image c = image_bytes c.image
sheet_text Listing c = list_text c

-- to a set whose first broken rule is this, if it breaks one
abbrev pub judged_reply : Sheet → TaskSet → Option (Refusal Told) → Reply
judged_reply sheet set None = (Done, sheet_text sheet (compiled set))
judged_reply sheet set (Some refusal) = refused_reply set.tasks refusal

abbrev pub compiled_reply : Sheet → TaskSet → Reply
compiled_reply sheet set = judged_reply sheet set (broken set)

-- the set and its sources are read, and the set is judged by all rules
abbrev pub sheet_stages : Sheet → List ℕ → Stage Reply
sheet_stages sheet name = reading_set name (λ set reads. Ok (compiled_reply sheet set))
