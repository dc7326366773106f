-- A schedule, cycle by cycle: which task the core serves, and what is known of how it chooses. Tasks are numbered in order of
-- priority, and time is in cycles.
use Rattle.std.specs.Prelude.{◌≡◌, ℕ, zero, suc, ◌+◌, ◌*◌, ◌/◌, ◌<◌, ◌≤◌, ◌==◌, ◌&&◌, min, Bool, false, Option, Some, None, if◌then◌else◌, List, length}
use Rattle.prem_sound.specs.Script.Scripts.{sum_below}
use Rattle.prem_resp.specs.declared.busy.load.Load.{Load}
use Rattle.prem_resp.specs.Busy.Busy.{releases_in, load_at, IsBalanced}

-- ---- tasks

-- of each task the period, the number of jobs, the cycles that a job is served at most, and its longest interval with its switch
pub record Tasks : Type 0 where
  pub count : ℕ
  pub period : ℕ → ℕ
  pub jobs : ℕ → ℕ
  pub cost : ℕ → ℕ
  pub longest : ℕ → ℕ

-- job number m of a task, from 0, is released at m periods; so many are released at a cycle, those of this cycle counted
abbrev pub released : Tasks → (task cycle : ℕ) → ℕ
released x k t = min (x.jobs k) (t / x.period k + 1)

-- those of this cycle not counted
abbrev pub released_before : Tasks → (task cycle : ℕ) → ℕ
released_before x k t = min (x.jobs k) (releases_in (x.period k) t)

-- ---- schedules

-- in each cycle the task that is served, with its switches and waits, if one is; before each cycle how many jobs of each task have ended
pub record Schedule : Type 0 where
  pub serves : ℕ → Option ℕ
  pub ended : (task cycle : ℕ) → ℕ

abbrev pub IsReady : Tasks → Schedule → (task cycle : ℕ) → Type 0
IsReady x s k t = s.ended k t < released x k t

abbrev pub is_task : ℕ → Option ℕ → Bool
is_task k None = false
is_task k (Some j) = k == j

abbrev pub one_if : Bool → ℕ
one_if b = if b then 1 else 0

-- the cycles before this one in which job number m of a task was served
abbrev pub served : Schedule → (task job cycle : ℕ) → ℕ
served s k m zero = 0
served s k m (suc t) = served s k m t + one_if (is_task k (s.serves t) && (s.ended k t == m))

-- a task that is served was chosen before, in place of no ready one before it, and not longer ago than its longest interval lasts
pub record IsServed (x : Tasks) (s : Schedule) (k t : ℕ) : Type 0 where
  pub there : k < x.count
  pub ready : IsReady x s k t
  pub chosen : ℕ
  pub before : chosen ≤ t
  pub lasts : t ≤ chosen + x.longest k
  pub first : (j : ℕ) → j < k → IsReady x s j chosen → ⊥

pub record IsSchedule (x : Tasks) (s : Schedule) : Type 0 where
  pub periods : (k : ℕ) → k < x.count → 1 ≤ x.period k
  pub serves : (t k : ℕ) → s.serves t ≡ Some k → IsServed x s k t
  pub rests : (t : ℕ) → s.serves t ≡ None → (k : ℕ) → k < x.count → IsReady x s k t → ⊥
  pub grows : (k t : ℕ) → k < x.count → s.ended k t ≤ s.ended k (suc t)
  pub counted : (k t : ℕ) → k < x.count → s.ended k t ≤ released_before x k t
  pub most : (k m t : ℕ) → k < x.count → served s k m t ≤ x.cost k
  pub unfinished : (k t : ℕ) → k < x.count → s.ended k t < x.jobs k → served s k (s.ended k t) t < x.cost k

-- ---- the law

-- so many cycles are enough for an interval behind a task, a job of it, and the jobs of those before it
pub record IsEnough (x : Tasks) (i cycles : ℕ) : Type 0 where
  pub there : i < x.count
  pub some : 1 ≤ cycles
  pub within : cycles ≤ x.period i
  pub blocked : ℕ
  pub behind : (k : ℕ) → i < k → k < x.count → x.longest k ≤ blocked
  pub most : blocked + x.cost i + sum_below i (λ j. releases_in (x.period j) cycles * x.cost j) ≤ cycles

-- then each job of the task has ended so many cycles behind its release
abbrev pub JobsEndInTime : Type 0
JobsEndInTime =
    (x : Tasks) (s : Schedule) (i cycles : ℕ) → IsSchedule x s → IsEnough x i cycles →
    (job t : ℕ) → job < x.jobs i → job * x.period i + cycles ≤ t → job < s.ended i t

-- ---- loads

-- the tasks of some loads, with so many jobs each
abbrev pub tasks_of : List Load → (ℕ → ℕ) → Tasks
tasks_of loads jobs = record {
  count = length loads;
  period = λ k. (load_at loads k).period;
  jobs = jobs;
  cost = λ k. (load_at loads k).cost;
  longest = λ k. (load_at loads k).longest;
}

-- the length of a busy period, within the task's period, is enough
abbrev pub LengthsAreEnough : Type 0
LengthsAreEnough =
    (loads : List Load) (jobs : ℕ → ℕ) (i cycles : ℕ) → i < length loads → IsBalanced loads i cycles → cycles ≤ (load_at loads i).period → IsEnough (tasks_of loads jobs) i cycles
