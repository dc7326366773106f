-- What the answers promise: where a text's last line is `fits`, each job ends within its period; where a set is refused, it breaks a rule.
use Rattle.std.specs.Prelude.{◌≡◌, ◌<◌, ℕ, List, ◌++◌, length, None, Some, codes}
use Rattle.prem_cycle.specs.State.{record_of}
use Rattle.prem_layout.specs.Rules.{Refusal}
use Rattle.prem_tasks.specs.Told.{Told}
use Rattle.prem_tasks.specs.Broken.{TaskSet, broken}
use Rattle.prem_sets_sound.specs.ImagePremises.Accepted.{HasValues, setup_in}
use Rattle.prem_answer.specs.declared.answer.Telling.TheVariants.{Brief}
use Rattle.prem_answer.specs.Statuses.{plain_status}
use Rattle.prem_answer.specs.Stages.{Reply, Reads, Stage}
use Rattle.prem_exec.specs.Sources.Sources.{reading_set_by}
use Rattle.prem_answer.specs.declared.status.PlainStatus.TheVariants.{Done, Refused}
use Rattle.prem_resp.specs.Lines.{TellsLength}
use Rattle.prem_resp.specs.Fits.{loads_in, EndsInTime}
use Rattle.prem_resp.specs.Stages.{refused_text, set_text}

-- with these readings a set's file and its sources are read, whatever comes next; its values are in their ranges
pub record IsRead (reads : Reads) (name : List ℕ) (set : TaskSet) : Type 0 where
  pub left : Reads
  pub gives : (next : TaskSet → Stage Reply) → reading_set_by Brief name next reads ≡ next set left
  pub values : HasValues set

-- a text says that all jobs end in time
pub record SaysFits (text : List ℕ) : Type 0 where
  pub lines : List ℕ
  pub is : text ≡ lines ++ codes "fits\n"

-- the line of task number i, by its place and its name, tells a length, and each job of the task ends so many cycles behind its release
pub record EndsAsTold (set : TaskSet) (text : List ℕ) (i : ℕ) : Type 0 where
  pub cycles : ℕ
  pub line : TellsLength text (loads_in set) i (record_of (setup_in set) i).name cycles
  pub ends : EndsInTime set i cycles

-- A text is that of a set that breaks no rule. Where it says that the set fits, then for all input words, requests of devices, and numbers
-- of cycles, each job of each task has ended so many cycles behind its release as the task's line tells. That is as long as the busy
-- period of its level lasts, and no longer than the task's period.
pub record IsFitting (reads : Reads) (name text : List ℕ) : Type 0 where
  pub set : TaskSet
  pub read : IsRead reads name set
  pub unbroken : broken set ≡ None
  pub text_is : text ≡ set_text set
  pub in_time : SaysFits text → (i : ℕ) → i < length (setup_in set).tasks → EndsAsTold set text i

-- a text tells the task that breaks the first broken rule
pub record IsFirstBroken (reads : Reads) (name text : List ℕ) : Type 0 where
  pub set : TaskSet
  pub read : IsRead reads name set
  pub refusal : Refusal Told
  pub is_first : broken set ≡ Some refusal
  pub text_is : text ≡ refused_text set.tasks refusal

-- where the program ends with this answer as done or as refused
pub record Keeps (reads : Reads) (name : List ℕ) (given : Reply) : Type 0 where
  pub on_done : plain_status given.0 ≡ Done → IsFitting reads name given.1
  pub on_refused : plain_status given.0 ≡ Refused → IsFirstBroken reads name given.1
