-- What an annotated set promises: what the written texts are, and that the set with all of them breaks no rule.
use Rattle.std.specs.Prelude.{◌≡◌, ⊤, ℕ, ◌+◌, ◌<◌, ◌⊎◌, ℤ, List, [], ◌∷◌, None, Ok}
use Rattle.prem_word.specs.Ranges.{from_to}
use Rattle.prem_syntax.specs.Syntax.{RegionText, ProgramText}
use Rattle.prem_syntax.specs.Source.{source}
use Rattle.prem_syntax.specs.ProgramRules.{IsWellFormed}
use Rattle.prem_text.specs.Canonical.Unplaced.{unplaced}
use Rattle.prem_text.specs.Texts.{reads, IsProgramText}
use Rattle.prem_ranges.specs.RangesKept.{StaysInRange}
use Rattle.prem_tasks.specs.Broken.{TaskText, TaskSet, broken}
use Rattle.prem_compile.specs.Bounding.{bounds_told}
use Rattle.prem_annotating.specs.Annotated.{annotated, first_other}
use Rattle.prem_annotating.specs.Laws.{GetsRange, IsLeast, arguments_for, HasRegion, with_region, region_breaches}
use Rattle.prem_annotating.specs.Pieces.{text_of}
use Rattle.prem_annotating.specs.Phrases.{AnnotatedText}
use Rattle.prem_annotate.specs.Writing.Text.{annotated_text}
use Rattle.prem_annotate_answer.specs.Unplaced.{unlined}
use Rattle.prem_annotate_answer.specs.Written.{with_text, with_tasks, length_told, lengths_of, IsAnnotated}

-- ---- tasks

-- A task whose text has the annotations that its program needs, with lengths that are at least the given ones. Its text is that of the
-- old one's pieces with edits at annotations alone, and is read as the annotated program, places aside. What is read does what the old
-- program does, whatever the inputs and however many jobs: globals, outputs, marked calls and input words used are the same, or both go
-- wrong. The annotated program breaks no rule on ranges. Each RANGE that is new is the least around the arguments of all calls, and no
-- region can be smaller by an element at either end.
pub record IsAnnotatedTask (lengths : ℕ → ℕ) (old new_task : TaskText) : Type 0 where
  pub program : ProgramText
  pub text_is : IsProgramText old.text program
  pub formed : IsWellFormed program
  pub others : first_other program ≡ None
  pub pieces : AnnotatedText lengths old.text program text_is.phrase
  pub new_is : new_task ≡ with_text (text_of pieces.new) old
  pub read : ProgramText
  pub is_read : reads new_task.text ≡ Ok read
  pub tree_is : unplaced read ≡ unplaced (annotated lengths program)
  pub runs : (inputs : List ℕ) (jobs : ℕ) → source (annotated lengths program) inputs jobs ≡ source program inputs jobs
  pub runs_read : (inputs : List ℕ) (jobs : ℕ) → unlined (source read inputs jobs) ≡ unlined (source program inputs jobs)
  pub stays : StaysInRange (annotated lengths program)
  pub ranges : (f k : ℕ) (r : ℤ × ℤ) → (gets : GetsRange lengths program f k r) → IsLeast (arguments_for (annotated lengths program) f k gets.old) (from_to r.0 r.1)
  pub regions : (n k : ℕ) (r : RegionText) → HasRegion (annotated lengths program) n k r →
      (low high : ℕ) → (r.low < low) ⊎ (high < r.high) → region_breaches (with_region n k low high (annotated lengths program)) ≡ [] → ⊥

-- one for one, from number k on
abbrev pub AreAnnotatedTasks : (ℕ → ℕ → ℕ) → ℕ → List TaskText → List TaskText → Type 0
AreAnnotatedTasks lengths k [] [] = ⊤
AreAnnotatedTasks lengths k [] (u ∷ us) = ⊥
AreAnnotatedTasks lengths k (t ∷ ts) [] = ⊥
AreAnnotatedTasks lengths k (t ∷ ts) (u ∷ us) = IsAnnotatedTask (lengths k) t u × AreAnnotatedTasks lengths (k + 1) ts us

-- ---- sets

-- A set whose texts have the annotations that their programs need, where each length is the greater one of what was stated and the
-- function's bound in that very set, where that can be stated: nothing else of it differs, and it breaks no rule.
pub record IsAnnotatedSet (set new_set : TaskSet) : Type 0 where
  pub tasks : AreAnnotatedTasks (lengths_of annotated_text set) 0 set.tasks new_set.tasks
  pub else_same : new_set ≡ with_tasks new_set.tasks set
  pub bounds : (k n : ℕ) → lengths_of annotated_text set k n ≡ length_told (bounds_told new_set) k n
  pub lawful : broken new_set ≡ None

abbrev pub SetsAreAnnotated : Type 0
SetsAreAnnotated = (set new_set : TaskSet) → IsAnnotated annotated_text set new_set → IsAnnotatedSet set new_set

-- annotated once more, such a set is what it is annotated to, text by text
abbrev pub AnnotatedSetsStay : Type 0
AnnotatedSetsStay = (set new_set : TaskSet) → IsAnnotated annotated_text set new_set → IsAnnotated annotated_text new_set new_set
