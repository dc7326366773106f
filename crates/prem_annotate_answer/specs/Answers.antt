-- The answer to SET TASK: the text of a task with the annotations that it needs.
use Rattle.std.specs.Prelude.{◌≡◌, ℕ, if◌then◌else◌, List, [], ◌∷◌, Option, None, Some, Ok, codes}
use Rattle.prem_io.specs.Files.{Files}
use Rattle.prem_layout.specs.Rules.{Refusal}
use Rattle.prem_tasks.specs.Told.{Told}
use Rattle.prem_tasks.specs.Broken.{TaskSet}
use Rattle.prem_answer.specs.declared.status.Status.TheVariants.{Done}
use Rattle.prem_answer.specs.Stages.{Reply, Stage, missing_reply}
use Rattle.prem_answer.specs.Tool.{ToolMeaning, is_file}
use Rattle.prem_answer.specs.Refusal.Texts.{refused_reply}
use Rattle.prem_exec.specs.Sources.Sources.{reading_set}
use Rattle.prem_exec.specs.Sources.There.{SetIsThere}
use Rattle.prem_annotate.specs.Writing.Text.{annotated_text}
use Rattle.prem_annotate_answer.specs.Written.{text_named, written, unannotated}
use Rattle.prem_annotate_answer.specs.Promised.{Keeps}

-- ---- what is asked for

-- a set's file, and the name of one of its tasks
pub record Asked : Type 0 where
  pub set : List ℕ
  pub task : List ℕ

abbrev pub asked : List ℕ → List ℕ → Asked
asked set task = record { set = set; task = task }

-- SET TASK
abbrev pub asked_of : List (List ℕ) → Option Asked
asked_of [] = None
asked_of (set ∷ []) = None
asked_of (set ∷ task ∷ []) = if is_file set then Some (asked set task) else None
asked_of (set ∷ task ∷ other ∷ words) = None

-- ---- a set

abbrev pub text_reply : List ℕ → Option (List ℕ) → Reply
text_reply task None = missing_reply task
text_reply task (Some text) = (Done, text)

-- to a set against which this rule stands, if any does
abbrev pub judged_reply : List ℕ → TaskSet → Option (Refusal Told) → Reply
judged_reply task set None = text_reply task (text_named task (written annotated_text set).tasks)
judged_reply task set (Some refusal) = refused_reply set.tasks refusal

-- to a set with a task of the name, or without one
abbrev pub found_reply : List ℕ → TaskSet → Option (List ℕ) → Reply
found_reply task set None = missing_reply task
found_reply task set (Some text) = judged_reply task set (unannotated annotated_text set)

abbrev pub annotate_reply : List ℕ → TaskSet → Reply
annotate_reply task set = found_reply task set (text_named task set.tasks)

abbrev pub behind_set : List ℕ → TaskSet → Stage Reply
behind_set task set reads = Ok (annotate_reply task set)

-- the set and its sources are read, and it is annotated
abbrev pub annotate_stages : Asked → Stage Reply
annotate_stages a = reading_set a.set (behind_set a.task)

-- ---- the program

-- the set is there and in form, it has the task, and no rule stands against its annotations
pub record Succeeds (files : Files) (a : Asked) (reply : Reply) : Type 0 where
  pub set : TaskSet
  pub there : SetIsThere files a.set set
  pub old : List ℕ
  pub has_task : text_named a.task set.tasks ≡ Some old
  pub unbroken : unannotated annotated_text set ≡ None
  pub reply_is : reply ≡ text_reply a.task (text_named a.task (written annotated_text set).tasks)

abbrev pub annotate_tool : ToolMeaning
annotate_tool = record {
  Asked = Asked;
  asked_of = asked_of;
  usage = codes "usage: prem_annotate SET TASK\n";
  stages = annotate_stages;
  keeps = λ asked reads given. Keeps reads asked.set asked.task given;
  succeeds = Succeeds;
}
