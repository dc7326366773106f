-- What the answers promise: the numbers that a text tells hold of each run, and where its last line is `fits`, each job ends within its period, and each request
-- of a device that is named within its wait; where a set is refused, it breaks the rule that is told, or hasn't got a device that is named.
use Rattle.std.specs.Prelude.{◌≡◌, ◌⊎◌, ◌<◌, ◌≤◌, ℕ, List, ◌++◌, length, slice_get, Option, None, Some, codes}
use Rattle.prem_layout.specs.Rules.{Refusal}
use Rattle.prem_tasks.specs.Told.{Told}
use Rattle.prem_tasks.specs.Broken.{TaskSet, broken}
use Rattle.prem_sets_sound.specs.ImagePremises.Accepted.{HasValues, setup_in}
use Rattle.prem_answer.specs.Statuses.{plain_status}
use Rattle.prem_answer.specs.Stages.{Reply, Reads, Stage}
use Rattle.prem_answer.specs.Refusal.Texts.{refusal_line}
use Rattle.prem_exec.specs.Sources.Sources.{reading_set}
use Rattle.prem_answer.specs.declared.status.PlainStatus.TheVariants.{Done, Refused}
use Rattle.prem_resp.specs.declared.busy.length.Busy.{Busy}
use Rattle.prem_resp.specs.declared.busy.length.Busy.TheVariants.{Within, Past}
use Rattle.prem_resp.specs.Headline.{SaysFits}
use Rattle.prem_resp.specs.Fits.{found_in}
use Rattle.prem_syntax.specs.Syntax.{Text}
use Rattle.prem_latency.specs.Wait.{requests_in}
use Rattle.prem_time.specs.declared.devices.Named.{Named}
use Rattle.prem_time.specs.Words.{Asked, Distance}
use Rattle.prem_time.specs.Times.{limit_in, loads_in, told_at}
use Rattle.prem_time.specs.Devices.{device_at, device_told, named_in, unknown_in, wait_in}
use Rattle.prem_time.specs.Lines.{HasLine, TellsTask, device_line, limit_line}
use Rattle.prem_time.specs.Fits.{EndsInTime, IsNamedAt, IsPast, KeepsTimes, ServesInTime, WhyLate}
use Rattle.prem_time.specs.Stages.{set_text, unknown_line}

-- with these readings a set's file and its sources are read, whatever comes next; its values are in their ranges
pub record IsRead (reads : Reads) (name : List ℕ) (set : TaskSet) : Type 0 where
  pub left : Reads
  pub gives : (next : TaskSet → Stage Reply) → reading_set name next reads ≡ next set left
  pub values : HasValues set

-- the line of task number i, with what is found of its busy period
pub record IsToldAs (set : TaskSet) (text : List ℕ) (i : ℕ) (busy : Busy) : Type 0 where
  pub found : slice_get (found_in (loads_in set)) i ≡ Some busy
  pub line : TellsTask text (loads_in set) i (told_at set i) busy

-- it tells a length, and each job of the task ends so many cycles behind its release
pub record EndsAsTold (set : TaskSet) (text : List ℕ) (i : ℕ) : Type 0 where
  pub cycles : ℕ
  pub told : IsToldAs set text i (Within cycles)
  pub ends : EndsInTime set i cycles

-- ---- the devices that are named

-- the line of number i of the devices that are named, with its wait
pub record IsDeviceTold (set : TaskSet) (ds : List Distance) (text : List ℕ) (i : ℕ) (n : Named) (wait : Option ℕ) : Type 0 where
  pub named : IsNamedAt set ds i n
  pub wait_is : wait_in set ds n.number ≡ wait
  pub line : HasLine text (device_line (device_told set.devices n wait))

-- whichever it is
pub record TellsDevice (set : TaskSet) (ds : List Distance) (text : List ℕ) (i : ℕ) : Type 0 where
  pub device : Named
  pub wait : Option ℕ
  pub told : IsDeviceTold set ds text i device wait

-- it tells a wait, in which no more requests come than the queue holds, and each request has been transferred by then
pub record IsServedAsTold (set : TaskSet) (ds : List Distance) (text : List ℕ) (i : ℕ) : Type 0 where
  pub device : Named
  pub wait : ℕ
  pub told : IsDeviceTold set ds text i device (Some wait)
  pub held : requests_in device.every wait ≤ (device_at set.devices device.number).queue
  pub serves : ServesInTime set ds device wait

-- ---- a set that is late

-- a text says that not all is known to be in time
pub record SaysLate (text : List ℕ) : Type 0 where
  pub lines : List ℕ
  pub is : text ≡ lines ++ codes "late\n"

-- a task whose line tells that no busy period is within its period, and none is
pub record IsToldPast (set : TaskSet) (text : List ℕ) : Type 0 where
  pub task : ℕ
  pub there : task < length (setup_in set).tasks
  pub told : IsToldAs set text task Past
  pub past : IsPast set task

-- a device that is named, whose line tells no wait, or one in which more requests come than its queue holds
pub record IsToldLate (set : TaskSet) (ds : List Distance) (text : List ℕ) : Type 0 where
  pub number : ℕ
  pub device : Named
  pub wait : Option ℕ
  pub told : IsDeviceTold set ds text number device wait
  pub why : WhyLate set ds device wait

-- ---- what the answers promise

-- A text is that of a set that breaks no rule and has each device that is named: it tells of each task what its jobs and intervals take at most, and when all
-- have ended, and so it is in each run; and of each device that is named, how long its requests wait. Where it says that the set fits, then for all input
-- words, requests of devices, and numbers of cycles, each job of each task has ended so many cycles behind its release as the task's line tells; and where
-- the devices keep their distances, and those that aren't named make no request, each request of a device that is named has been transferred so many cycles
-- behind its own as the device's line tells, unless the run has finished before, and none is dropped. Wherever a line tells a wait, the requests that found
-- room have been transferred by then. Where the text says that the set is late, a task's busy period is past the task's period, or a device is late.
pub record IsTimely (reads : Reads) (asked : Asked) (text : List ℕ) : Type 0 where
  pub set : TaskSet
  pub read : IsRead reads asked.set set
  pub unbroken : broken set ≡ None
  pub known : unknown_in asked.distances set.devices ≡ None
  pub text_is : text ≡ set_text asked.distances set
  pub told : (i : ℕ) → i < length (setup_in set).tasks → (busy : Busy) × IsToldAs set text i busy
  pub devices : (i : ℕ) → i < length (named_in asked.distances set.devices) → TellsDevice set asked.distances text i
  pub limit : HasLine text (limit_line (limit_in set))
  pub keeps : KeepsTimes set
  pub waits : (i : ℕ) (n : Named) (wait : ℕ) → IsDeviceTold set asked.distances text i n (Some wait) → ServesInTime set asked.distances n wait
  pub in_time : SaysFits text → (i : ℕ) → i < length (setup_in set).tasks → EndsAsTold set text i
  pub served : SaysFits text → (i : ℕ) → i < length (named_in asked.distances set.devices) → IsServedAsTold set asked.distances text i
  pub late : SaysLate text → IsToldPast set text ⊎ IsToldLate set asked.distances text

-- a text tells the first broken rule, and the task that breaks it
pub record IsFirstBroken (reads : Reads) (asked : Asked) (text : List ℕ) : Type 0 where
  pub set : TaskSet
  pub read : IsRead reads asked.set set
  pub refusal : Refusal Told
  pub is_first : broken set ≡ Some refusal
  pub text_is : text ≡ refusal_line set.tasks refusal

-- or the first device that is named and that a set hasn't got, which breaks no rule
pub record NamesNone (reads : Reads) (asked : Asked) (text : List ℕ) : Type 0 where
  pub set : TaskSet
  pub read : IsRead reads asked.set set
  pub unbroken : broken set ≡ None
  pub name : Text
  pub unknown : unknown_in asked.distances set.devices ≡ Some name
  pub text_is : text ≡ unknown_line name

-- where the program ends with this answer as done or as refused
pub record Keeps (reads : Reads) (asked : Asked) (given : Reply) : Type 0 where
  pub on_done : plain_status given.0 ≡ Done → IsTimely reads asked given.1
  pub on_refused : plain_status given.0 ≡ Refused → IsFirstBroken reads asked given.1 ⊎ NamesNone reads asked given.1
