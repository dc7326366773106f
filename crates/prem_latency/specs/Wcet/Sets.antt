-- Sets that break no rule go by what their jobs take at most.
use Rattle.std.specs.Prelude.{◌≡◌, ℕ, ◌<◌, List, length, map, None, slice_index_or}
use Rattle.prem_plant.specs.declared.plant.Plant.{Plant}
use Rattle.prem_plant.specs.declared.plant.Device.{Device}
use Rattle.prem_plant.specs.Places.{Extent}
use Rattle.prem_lru.specs.Rules.{rule_of}
use Rattle.prem_cycle.specs.Alone.{run_in}
use Rattle.prem_cycle.specs.Inputs.{image_setup}
use Rattle.prem_sound.specs.Script.Scripts.{Promise}
use Rattle.prem_sound.specs.Sound.{AreInputs, Sound}
use Rattle.prem_layout.specs.Parts.{pass_count, stub_passes}
use Rattle.prem_layout.specs.Placed.{Coded, Placed, placed_from}
use Rattle.prem_tasks.specs.Broken.{TaskSet}
use Rattle.prem_tasks.specs.At.{placed_by, broken_at, compiled_at, AreLawfulFor}
use Rattle.prem_sets_sound.specs.StubLaws.Own.Owned.{own_of, setup_of}
use Rattle.prem_sets_sound.specs.StubLaws.Initial.Initial.{content_of}
use Rattle.prem_sets_sound.specs.ImagePremises.Accepted.{HasValues, IsLaidOut, limits_at}
use Rattle.prem_sets_sound.specs.Meant.{AreMeant}
use Rattle.prem_sets_sound.specs.PlacesSound.At.{promises_at}
use Rattle.prem_sound.specs.Limits.{jobs_limit}
use Rattle.prem_sets_sound.specs.StubLaws.Charges.Charges.{TaskCharges}
use Rattle.prem_latency.specs.Wcet.Tasks.{task_wcet, task_stretch, task_closed, TaskShuts}

-- what a job of task k takes at most, and how long its stretches and intervals last without the switch before them
abbrev pub wcet_at : Plant → List Placed → ℕ → ℕ
wcet_at p placed k = slice_index_or (map (task_wcet p) placed) k 0

abbrev pub stretch_at : Plant → List Placed → ℕ → ℕ
stretch_at p placed k = slice_index_or (map (task_stretch p) placed) k 0

-- at any lawful places tasks that keep the rules are charged no more
abbrev pub MeantTasksGoByWcet : Type 0
MeantTasksGoByWcet =
    (passes : ℕ → ℕ) (p : Plant) (devices : List Device) (tasks : List Coded) (places : List Extent) (promises : List (List ℕ) → ℕ → Promise) →
    IsLaidOut p devices tasks places → passes p.«ways» ≡ pass_count (stub_passes p) →
    AreMeant p (placed_from p places tasks) promises → (inputs : List (List ℕ)) → AreInputs (setup_of p devices places tasks) inputs → (k : ℕ) → k < length (setup_of p devices places tasks).tasks →
    TaskCharges (setup_of p devices places tasks) passes (own_of tasks places k)
    (run_in (setup_of p devices places tasks) (content_of p places tasks) inputs k) (limits_at p (placed_from p places tasks) k)
    (wcet_at p (placed_from p places tasks) k) (stretch_at p (placed_from p places tasks) k) (promises inputs k)

-- what a job of it keeps closed at most to transfers of such a cost, without the idle time that its release ends
abbrev pub closed_at : Plant → (top : ℕ) → List Placed → ℕ → ℕ
closed_at p top placed k = slice_index_or (map (task_closed p top) placed) k 0

abbrev pub MeantTasksShutByWcet : Type 0
MeantTasksShutByWcet =
    (passes : ℕ → ℕ) (p : Plant) (devices : List Device) (tasks : List Coded) (places : List Extent) (promises : List (List ℕ) → ℕ → Promise) →
    IsLaidOut p devices tasks places → passes p.«ways» ≡ pass_count (stub_passes p) →
    AreMeant p (placed_from p places tasks) promises → (top : ℕ) (inputs : List (List ℕ)) → AreInputs (setup_of p devices places tasks) inputs →
    (k : ℕ) → k < length (setup_of p devices places tasks).tasks →
    TaskShuts (setup_of p devices places tasks) passes (own_of tasks places k)
    (run_in (setup_of p devices places tasks) (content_of p places tasks) inputs k) (limits_at p (placed_from p places tasks) k)
    (wcet_at p (placed_from p places tasks) k) (stretch_at p (placed_from p places tasks) k) top (closed_at p top (placed_from p places tasks) k) (promises inputs k)

-- For all input words and all requests of devices the image of a set that breaks no rule is sound, and its run has finished by the last release
-- and the sum of jobs times what they take.
abbrev pub SetsGoByWcet : Type 0
SetsGoByWcet =
    (set : TaskSet) (places : List Extent) → HasValues set → AreLawfulFor set places → broken_at set places ≡ None →
    Sound (rule_of set.plant.policy) (image_setup (compiled_at set places).image) (compiled_at set places).image.content (promises_at set places)
    (jobs_limit (image_setup (compiled_at set places).image) (wcet_at set.plant (placed_by set places)))
