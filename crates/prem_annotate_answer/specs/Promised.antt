-- What the answer promises, where the program ends as done or as refused.
use Rattle.std.specs.Prelude.{◌≡◌, ℕ, List, Some}
use Rattle.prem_layout.specs.Rules.{Refusal}
use Rattle.prem_tasks.specs.Told.{Told}
use Rattle.prem_tasks.specs.Broken.{TaskSet}
use Rattle.prem_answer.specs.declared.status.Status.TheVariants.{Done, Refused}
use Rattle.prem_answer.specs.Stages.{Reply, Reads, Stage}
use Rattle.prem_answer.specs.Refusal.Texts.{refused_reply}
use Rattle.prem_exec.specs.Sources.Sources.{reading_set}
use Rattle.prem_annotate.specs.Writing.Text.{annotated_text}
use Rattle.prem_annotate_answer.specs.Written.{unannotated, text_named}
use Rattle.prem_annotate_answer.specs.Kept.{IsAnnotatedSet}

-- with these readings a set's file and its sources are read, whatever comes next
pub record IsRead (readings : Reads) (name : List ℕ) (set : TaskSet) : Type 0 where
  pub left : Reads
  pub gives : (next : TaskSet → Stage Reply) → reading_set name next readings ≡ next set left

-- a text is that of a task in the set with all annotations
pub record TellsAnnotated (readings : Reads) (name task text : List ℕ) : Type 0 where
  pub set : TaskSet
  pub read : IsRead readings name set
  pub new_set : TaskSet
  pub annotated_set : IsAnnotatedSet set new_set
  pub text_is : text_named task new_set.tasks ≡ Some text

-- a text tells the first rule that stands against the set's annotations
pub record TellsFirst (readings : Reads) (name text : List ℕ) : Type 0 where
  pub set : TaskSet
  pub read : IsRead readings name set
  pub refusal : Refusal Told
  pub is_first : unannotated annotated_text set ≡ Some refusal
  pub text_is : text ≡ (refused_reply set.tasks refusal).1

-- where the program ends with this answer as done or as refused
pub record Keeps (readings : Reads) (name task : List ℕ) (given : Reply) : Type 0 where
  pub on_done : given.0 ≡ Done → TellsAnnotated readings name task given.1
  pub on_refused : given.0 ≡ Refused → TellsFirst readings name given.1
