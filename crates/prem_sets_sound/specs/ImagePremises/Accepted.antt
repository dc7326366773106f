-- Sets that break no rule, as what the machine's side of soundness asks of an image.
use Rattle.std.specs.Prelude.{◌≡◌, ℕ, ◌<◌, All, List, length, map, slice_get, slice_index_or, None, Some, Ok}
use Rattle.prem_sets_sound.specs.Prelude.{run_in, image_setup, Setup, limit_of, Coded, Placed, placed_from, code_rules, reach_rules, conflict_rules, bound_rules, length_rules, log_rules}
use Rattle.prem_sets_sound.specs.Prelude.{items_of, ReplacementRule, OrderRule, Extent, AreLawful, Between, IsPlant, Device, Plant, bounded, IsPolicy, Promise, AreInputs, Sound, ProgramText}
use Rattle.prem_sets_sound.specs.Prelude.{TaskText, TaskSet, coded_one, broken, coded_in, parts_in, places_in, placed_in, job_bounds, compiled, AreDevices, IsSet, set_of, reads}
use Rattle.prem_layout.specs.Placed.{parts_of}
use Rattle.prem_plant.specs.Label.{IsName, AreDistinct}
use Rattle.prem_sets_sound.specs.StubLaws.Initial.Initial.{content_of}
use Rattle.prem_sets_sound.specs.StubLaws.JoinedRuns.Joined.{JobLimits, TaskJoins, IsJoined}
use Rattle.prem_sets_sound.specs.StubLaws.Own.Owned.{HasCode, own_of, setup_of}
use Rattle.prem_sets_sound.specs.TaskLaws.TaskFrame.Limits.{task_limits}
use Rattle.prem_tasks.specs.declared.set.TaskSet.{TaskSet as SetTree}
use Rattle.prem_syntax.specs.ProgramRules as meaning
use Rattle.prem_ranges.specs.RangesKept as ranges

-- ---- values in their ranges

pub record HasTextValues (t : TaskText) : Type 0 where
  pub name : IsName t.name
  pub period : Between 1 4294967295 t.period
  pub jobs : Between 1 65535 t.jobs

-- each value of a set is in its range, and no two tasks and no two devices have one name
pub record HasValues (set : TaskSet) : Type 0 where
  pub plant_is : IsPlant set.plant
  pub devices_are : AreDevices set.devices
  pub count : Between 1 16 (length set.tasks)
  pub each : All HasTextValues set.tasks
  pub names : AreDistinct (map (λ (t : TaskText). t.name) set.tasks)

-- so it is in memory
abbrev pub LawfulSetsHaveValues : Type 0
LawfulSetsHaveValues = (s : SetTree) → IsSet s.plant (items_of s.devices) (items_of s.tasks) → HasValues (set_of s)

-- ---- tasks with their code, at any lawful places

pub record HasCodedValues (c : Coded) : Type 0 where
  pub name : IsName c.name
  pub period : Between 1 4294967295 c.period
  pub jobs : Between 1 65535 c.jobs
  pub coded : HasCode c

-- a plant, devices and tasks with values in their ranges, at lawful places, whose jobs leave room in both logs
pub record IsLaidOut (p : Plant) (devices : List Device) (tasks : List Coded) (places : List Extent) : Type 0 where
  pub plant_is : IsPlant p
  pub devices_are : AreDevices devices
  pub count : Between 1 16 (length tasks)
  pub each : All HasCodedValues tasks
  pub names : AreDistinct (map (λ (c : Coded). c.name) tasks)
  pub lawful : AreLawful p.line p.memory (parts_of p devices tasks) places
  pub logs : log_rules tasks ≡ None

-- ---- what their jobs take

abbrev pub no_limits : JobLimits
no_limits = record { cycles = 0; outputs = 0; calls = 0 }

abbrev pub limits_at : Plant → List Placed → ℕ → JobLimits
limits_at p placed k = slice_index_or (map (task_limits p) placed) k no_limits

-- ---- the laws

-- for all input words the run of each task goes along a weave, gives what is promised, and stays within its limits
abbrev pub EachJoins : (passes : ℕ → ℕ) → Plant → List Device → List Coded → List Extent → (promises : List (List ℕ) → ℕ → Promise) → Type 0
EachJoins passes p devices tasks places promises =
    (inputs : List (List ℕ)) → AreInputs (setup_of p devices places tasks) inputs → (k : ℕ) → k < length (setup_of p devices places tasks).tasks →
    TaskJoins (setup_of p devices places tasks) passes (own_of tasks places k)
    (run_in (setup_of p devices places tasks) (content_of p places tasks) inputs k) (limits_at p (placed_from p places tasks) k) (promises inputs k)

-- all else that makes an image sound holds at any lawful places
abbrev pub LaidOutImagesJoin : Type 0
LaidOutImagesJoin =
    (passes : ℕ → ℕ) (p : Plant) (devices : List Device) (tasks : List Coded) (places : List Extent) (promises : List (List ℕ) → ℕ → Promise) →
    IsLaidOut p devices tasks places → EachJoins passes p devices tasks places promises →
    IsJoined passes (setup_of p devices places tasks) (content_of p places tasks) (own_of tasks places) (limits_at p (placed_from p places tasks))
    promises (limit_of (job_bounds p (placed_from p places tasks)))

-- a set that breaks no rule is laid out by any lawful places of its parts
abbrev pub AcceptedSetsAreLaidOut : Type 0
AcceptedSetsAreLaidOut =
    (set : TaskSet) (places : List Extent) → HasValues set → broken set ≡ None → AreLawful set.plant.line set.plant.memory (parts_in set) places →
    IsLaidOut set.plant set.devices (coded_in set) places

-- and its default places are lawful
abbrev pub DefaultPlacesAreLawful : Type 0
DefaultPlacesAreLawful =
    (set : TaskSet) → HasValues set → broken set ≡ None → AreLawful set.plant.line set.plant.memory (parts_in set) (places_in set)

-- what the machine runs of a set's compiled image
abbrev pub setup_in : TaskSet → Setup
setup_in set = image_setup (compiled set).image

abbrev pub AcceptedSetsJoin : Type 0
AcceptedSetsJoin =
    (passes : ℕ → ℕ) (set : TaskSet) (promises : List (List ℕ) → ℕ → Promise) → HasValues set → broken set ≡ None →
    EachJoins passes set.plant set.devices (coded_in set) (places_in set) promises →
    IsJoined passes (setup_in set) (compiled set).image.content (own_of (coded_in set) (places_in set)) (limits_at set.plant (placed_in set)) promises (compiled set).limit

-- so such an image is sound, within the limit that is told
abbrev pub AcceptedSetsAreSound : Type 0
AcceptedSetsAreSound =
    (rule : ReplacementRule) (order : OrderRule) (passes : ℕ → ℕ) (set : TaskSet) (promises : List (List ℕ) → ℕ → Promise) → IsPolicy rule order passes → HasValues set → broken set ≡ None →
    EachJoins passes set.plant set.devices (coded_in set) (places_in set) promises →
    Sound rule (setup_in set) (compiled set).image.content promises (compiled set).limit

-- ---- for the runs of tasks

-- what the placed task number k of a set that breaks no rule stands on: its text, the program that the text has, and the rules that it keeps
pub record KeepsRules (set : TaskSet) (k : ℕ) (t : Placed) : Type 0 where
  pub text : TaskText
  pub program : ProgramText
  pub there : slice_get set.tasks k ≡ Some text
  pub read : reads text.text ≡ Ok program
  pub two : meaning.first_breach program ≡ None
  pub three : ranges.first_range_breach program ≡ None
  pub is_coded : t.task ≡ coded_one set.plant.target text (bounded program)
  pub four : code_rules t.task.program ≡ None
  pub six : reach_rules t ≡ None
  pub seven : conflict_rules set.plant t ≡ None
  pub eight : bound_rules set.plant t ≡ None
  pub nine : length_rules set.plant t ≡ None

abbrev pub AcceptedTasksKeepRules : Type 0
AcceptedTasksKeepRules =
    (set : TaskSet) → broken set ≡ None → (k : ℕ) (t : Placed) → slice_get (placed_in set) k ≡ Some t → KeepsRules set k t
