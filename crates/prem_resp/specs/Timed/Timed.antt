-- Images whose jobs end in time.
use Rattle.std.specs.Prelude.{◌≡◌, ℕ, ◌+◌, ◌<◌, Bool, List, length}
use Rattle.prem_plant.specs.Order.Order.{OrderRule}
use Rattle.prem_lru.specs.Entries.{ReplacementRule}
use Rattle.prem_cycle.specs.Alone.{run_in}
use Rattle.prem_cycle.specs.State.{Setup, record_of}
use Rattle.prem_sound.specs.Script.Scripts.{Promise}
use Rattle.prem_sound.specs.Resident.Faultless.{IsPolicy}
use Rattle.prem_sound.specs.Sound.{AreInputs}
use Rattle.prem_sets_sound.specs.StubLaws.JoinedRuns.Joined.{JobLimits, IsJoined}
use Rattle.prem_sets_sound.specs.StubLaws.Charges.Charges.{TaskCharges}
use Rattle.prem_sets_sound.specs.TaskRuns.Joins.{TaskPaces}
use Rattle.prem_resp.specs.declared.busy.load.Load.{Load}
use Rattle.prem_resp.specs.Busy.Busy.{load_at}
use Rattle.prem_resp.specs.Deadline.Images.{MeetsDeadlines, KeepsIntervals}

-- ---- by charges

-- loads that tell the tasks' periods, what their jobs are charged, and their intervals with the switch before them
pub record TellsCharges (p : Setup) (cycles longest : ℕ → ℕ) (loads : List Load) : Type 0 where
  pub count : length loads ≡ length p.tasks
  pub period : (k : ℕ) → k < length p.tasks → (load_at loads k).period ≡ (record_of p k).period
  pub cost : (k : ℕ) → k < length p.tasks → (load_at loads k).cost ≡ cycles k
  pub longest_is : (k : ℕ) → k < length p.tasks → (load_at loads k).longest ≡ p.plant.switch + longest k

-- an image whose tasks join, each along a weave that is parted into scopes, meets its deadlines by what these are charged, and keeps its
-- intervals
abbrev pub JoinedImagesGoByCharges : Type 0
JoinedImagesGoByCharges =
    (rule : ReplacementRule) (order : OrderRule) (passes : ℕ → ℕ) (p : Setup) (content : List ℕ) (own : ℕ → ℕ → Bool) (most : ℕ → JobLimits)
    (cycles longest : ℕ → ℕ) (promises : List (List ℕ) → ℕ → Promise) (limit : ℕ) (loads : List Load) →
    IsPolicy rule order passes → IsJoined passes p content own most promises limit →
    ((inputs : List (List ℕ)) → AreInputs p inputs → (k : ℕ) → k < length p.tasks → TaskCharges p passes (own k) (run_in p content inputs k) (most k) (cycles k) (longest k) (promises inputs k)) →
    TellsCharges p cycles longest loads → MeetsDeadlines rule p content loads × KeepsIntervals rule p content loads

-- ---- by paces

-- an image whose tasks join, each at its pace, meets its deadlines by the bounds of the rules
abbrev pub JoinedImagesMeetDeadlines : Type 0
JoinedImagesMeetDeadlines =
    (rule : ReplacementRule) (order : OrderRule) (passes : ℕ → ℕ) (p : Setup) (content : List ℕ) (own : ℕ → ℕ → Bool) (most : ℕ → JobLimits)
    (longest : ℕ → ℕ) (promises : List (List ℕ) → ℕ → Promise) (limit : ℕ) (loads : List Load) →
    IsPolicy rule order passes → IsJoined passes p content own most promises limit →
    ((inputs : List (List ℕ)) → AreInputs p inputs → (k : ℕ) → k < length p.tasks → TaskPaces p passes (own k) (run_in p content inputs k) (most k) (longest k) (promises inputs k)) →
    TellsCharges p (λ k. (most k).cycles) longest loads → MeetsDeadlines rule p content loads
