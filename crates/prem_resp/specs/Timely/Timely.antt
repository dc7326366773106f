-- Sets whose jobs end in time.
use Rattle.std.specs.Prelude.{◌≡◌, ℕ, ◌<◌, List, length, map, slice_index_or, None}
use Rattle.prem_plant.specs.declared.plant.Plant.{Plant}
use Rattle.prem_plant.specs.declared.plant.Device.{Device}
use Rattle.prem_plant.specs.Places.{Extent}
use Rattle.prem_plant.specs.Order.Order.{OrderRule}
use Rattle.prem_lru.specs.Entries.{ReplacementRule}
use Rattle.prem_lru.specs.Rules.{rule_of}
use Rattle.prem_cycle.specs.Alone.{run_in}
use Rattle.prem_sound.specs.Script.Scripts.{Promise}
use Rattle.prem_sound.specs.Resident.Faultless.{IsPolicy}
use Rattle.prem_sound.specs.Sound.{AreInputs}
use Rattle.prem_layout.specs.Bounds.{job_bound_of}
use Rattle.prem_layout.specs.Placed.{Coded, Placed, placed_from}
use Rattle.prem_layout.specs.Stretch.Paths.{longest_of}
use Rattle.prem_tasks.specs.Broken.{TaskSet, broken}
use Rattle.prem_tasks.specs.Compiled.{placed_in, compiled}
use Rattle.prem_sets_sound.specs.StubLaws.Own.Owned.{own_of, setup_of}
use Rattle.prem_sets_sound.specs.StubLaws.Initial.Initial.{content_of}
use Rattle.prem_sets_sound.specs.TaskRuns.Joins.{TaskPaces, task_longest}
use Rattle.prem_sets_sound.specs.ImagePremises.Accepted.{HasValues, IsLaidOut, limits_at, setup_in}
use Rattle.prem_resp.specs.declared.busy.load.Load.{Load}
use Rattle.prem_resp.specs.Deadline.Images.{MeetsDeadlines}

-- ---- loads

-- what a placed task asks of the core
abbrev pub load_of : Plant → Placed → Load
load_of p t = record { period = t.task.period; cost = job_bound_of p t.plans t.table; longest = longest_of p t.plans t.table }

abbrev pub loads_of : Plant → List Placed → List Load
loads_of p placed = map (load_of p) placed

-- ---- the laws

abbrev pub longest_at : Plant → List Placed → ℕ → ℕ
longest_at p placed k = slice_index_or (map (task_longest p) placed) k 0

-- each task joins at its pace
abbrev pub EachPaces : (passes : ℕ → ℕ) → Plant → List Device → List Coded → List Extent → (promises : List (List ℕ) → ℕ → Promise) → Type 0
EachPaces passes p devices tasks places promises =
    (inputs : List (List ℕ)) → AreInputs (setup_of p devices places tasks) inputs → (k : ℕ) → k < length (setup_of p devices places tasks).tasks →
    TaskPaces (setup_of p devices places tasks) passes (own_of tasks places k)
    (run_in (setup_of p devices places tasks) (content_of p places tasks) inputs k) (limits_at p (placed_from p places tasks) k)
    (longest_at p (placed_from p places tasks) k) (promises inputs k)

-- at any lawful places
abbrev pub LaidOutSetsMeetDeadlines : Type 0
LaidOutSetsMeetDeadlines =
    (rule : ReplacementRule) (order : OrderRule) (passes : ℕ → ℕ) (p : Plant) (devices : List Device) (tasks : List Coded) (places : List Extent) (promises : List (List ℕ) → ℕ → Promise) →
    IsPolicy rule order passes → IsLaidOut p devices tasks places → EachPaces passes p devices tasks places promises →
    MeetsDeadlines rule (setup_of p devices places tasks) (content_of p places tasks) (loads_of p (placed_from p places tasks))

-- the compiled image of a set that breaks no rule, in a cache that replaces lines as the set's plant says
abbrev pub SetsMeetDeadlines : Type 0
SetsMeetDeadlines = (set : TaskSet) → HasValues set → broken set ≡ None → MeetsDeadlines (rule_of set.plant.policy) (setup_in set) (compiled set).image.content (loads_of set.plant (placed_in set))
