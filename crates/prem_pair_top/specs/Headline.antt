-- What the answers promise: where two sets are accepted they are sound together, and where one is refused it breaks a rule, the first set first.
use Rattle.std.specs.Prelude.{◌≡◌, ◌≤◌, ◌^◌, ◌⊎◌, ℕ, List, [], None, Some}
use Rattle.prem_layout.specs.Rules.{Refusal}
use Rattle.prem_tasks.specs.Told.{Told}
use Rattle.prem_tasks.specs.Broken.{TaskSet, broken}
use Rattle.prem_tasks.specs.Compiled.{compiled}
use Rattle.prem_sets_sound.specs.ImagePremises.Accepted.{HasValues, setup_in}
use Rattle.prem_answer.specs.declared.answer.Telling.TheVariants.{Brief}
use Rattle.prem_answer.specs.declared.status.PlainStatus.TheVariants.{Done, Refused}
use Rattle.prem_answer.specs.Statuses.{plain_status}
use Rattle.prem_answer.specs.Stages.{Reply, Reads}
use Rattle.prem_exec.specs.Forms.{RunText}
use Rattle.prem_exec.specs.Sources.Sources.{Gives, reading_run_by, reading_set_by}
use Rattle.prem_running.specs.RunSound.Runs.{SuitsRun}
use Rattle.prem_pair_top.specs.Words.{PairAsked}
use Rattle.prem_pair_top.specs.Running.{cycles_in, limit_in, pair_at}
use Rattle.prem_pair_top.specs.Stages.{compiled_text, reading_other, refused_text}
use Rattle.prem_pair_top.specs.Sound.{AreSound, EndsWell}

-- ---- what is read

-- both sets with their sources, and then both run files, one after another; their values are in their ranges
pub record AreRead (reads : Reads) (asked : PairAsked) (one two : TaskSet) (input other : RunText) : Type 0 where
  pub behind_one : Reads
  pub behind_two : Reads
  pub behind_input : Reads
  pub behind_other : Reads
  pub first : Gives (reading_set_by Brief asked.set) reads one behind_one
  pub second : Gives (reading_other asked.other_set) behind_one two behind_two
  pub first_run : Gives (reading_run_by Brief one asked.run) behind_two input behind_input
  pub second_run : Gives (reading_run_by Brief two asked.other_run) behind_input other behind_other
  pub values : HasValues one
  pub other_values : HasValues two
  pub none : two.devices ≡ []

-- ---- accepted

-- a text is the report of the run of two such sets that break no rule and are sound together, with the words and requests of their run
-- files, of which their soundness speaks; a machine reaches their limit, the report ends as finished or stopped, and on the way there no
-- task has trapped and no log was full while jobs were left
pub record IsSoundRun (reads : Reads) (asked : PairAsked) (text : List ℕ) : Type 0 where
  pub one : TaskSet
  pub two : TaskSet
  pub input : RunText
  pub other : RunText
  pub read : AreRead reads asked one two input other
  pub unbroken : broken one ≡ None
  pub other_unbroken : broken two ≡ None
  pub sound : AreSound one two
  pub suits : SuitsRun (setup_in one) input.words input.requests
  pub other_suits : SuitsRun (setup_in two) other.words other.requests
  pub reaches : limit_in (compiled one) (compiled two) input.requests ≤ 2 ^ 61
  pub ends :
      (let limit = limit_in (compiled one) (compiled two) input.requests in
      EndsWell limit (cycles_in asked.options.cycles limit) (pair_at (compiled one).image (compiled two).image input other))
  pub text_is : text ≡ compiled_text asked input other (compiled one) (compiled two)

-- ---- refused

-- a text tells which task of which set breaks the first broken rule
abbrev pub TellsBroken : TaskSet → TaskSet → List ℕ → Type 0
TellsBroken one two text =
    ((r : Refusal Told) × ((broken one ≡ Some r) × (text ≡ refused_text 0 one.tasks r)))
    ⊎ ((broken one ≡ None) × ((r : Refusal Told) × ((broken two ≡ Some r) × (text ≡ refused_text 1 two.tasks r))))

pub record IsFirstBroken (reads : Reads) (asked : PairAsked) (text : List ℕ) : Type 0 where
  pub one : TaskSet
  pub two : TaskSet
  pub input : RunText
  pub other : RunText
  pub read : AreRead reads asked one two input other
  pub tells : TellsBroken one two text

-- ---- both

-- where the program ends with this answer as done or as refused
pub record Keeps (reads : Reads) (asked : PairAsked) (given : Reply) : Type 0 where
  pub on_done : plain_status given.0 ≡ Done → IsSoundRun reads asked given.1
  pub on_refused : plain_status given.0 ≡ Refused → IsFirstBroken reads asked given.1
