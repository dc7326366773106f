-- The scripts of all tasks of a machine, and what their runs promise to give.
use Rattle.std.specs.Prelude.{◌≡◌, ℕ, zero, suc, ◌+◌, ◌-◌, ◌*◌, ◌<◌, max, Bool, true, List, [], ◌∷◌, Some, length, slice_index_or}
use Rattle.prem_sound.specs.Prelude.{log_size, AreOwn, Setup, TaskRecord, TaskRun, Did, plain_did, plain_run, Memory, End}
use Rattle.prem_sound.specs.Script.Script.{begun_by, call_at, Script, IsScript}

-- ---- what a run gives

-- what a task's words of memory are, read out of memory's bytes
abbrev pub Reading : Type 0
Reading = (ℕ → ℕ) → List (List ℕ)

-- a marked call: its stated length, and the task's words before and behind it
pub record Mark : Type 0 where
  pub stated : ℕ
  pub before : List (List ℕ)
  pub after : List (List ℕ)

abbrev pub no_mark : Mark
no_mark = record { stated = 0; before = []; after = [] }

abbrev pub mark_at : List Mark → ℕ → Mark
mark_at marks i = slice_index_or marks i no_mark

-- the words that a task puts out, its marked calls in order, and its words of memory in the end
pub record Promise : Type 0 where
  pub reads : Reading
  pub outputs : List ℕ
  pub marks : List Mark
  pub finals : List (List ℕ)

-- a reading looks at own bytes alone
abbrev pub ReadsOwn : (ℕ → Bool) → Reading → Type 0
ReadsOwn own reads = (view other : ℕ → ℕ) → ((a : ℕ) → own a ≡ true → view a ≡ other a) → reads view ≡ reads other

-- a run with a script gives what is promised
pub record IsKept (own : ℕ → Bool) (run : TaskRun) (s : Script) (q : Promise) : Type 0 where
  pub own_bytes : ReadsOwn own q.reads
  pub outputs : (plain_run run s.count).task.outputs ≡ q.outputs
  pub finals : q.reads (plain_run run s.count).task.view ≡ q.finals
  pub count : length q.marks ≡ length s.calls
  pub stated : (i : ℕ) → i < length s.calls → (mark_at q.marks i).stated ≡ (call_at s i).stated
  pub before : (n : ℕ) (d : Did) → plain_did run (plain_run run n) ≡ Some d → d.change ≡ Memory → q.reads (plain_run run (n + 1)).task.view ≡ (mark_at q.marks (begun_by run n).calls).before
  pub after : (n : ℕ) (d : Did) → plain_did run (plain_run run n) ≡ Some d → d.change ≡ End → q.reads (plain_run run (n + 1)).task.view ≡ (mark_at q.marks ((begun_by run n).calls - 1)).after

-- ---- all tasks

-- the sum over the numbers below n
abbrev pub sum_below : ℕ → (ℕ → ℕ) → ℕ
sum_below zero f = 0
sum_below (suc n) f = sum_below n f + f n

-- the last release of a job
abbrev pub last_release : List TaskRecord → ℕ
last_release [] = 0
last_release (r ∷ rs) = max ((r.jobs - 1) * r.period) (last_release rs)

-- the cycle by which the jobs of all tasks have ended
abbrev pub limit_of : Setup → (ℕ → Script) → ℕ
limit_of p scripts = last_release p.tasks + sum_below (length p.tasks) (λ k. (scripts k).due)

-- the intervals of a run: for each job a compatible one, and for each call a predictable one and a compatible one behind it
abbrev pub interval_count : TaskRun → Script → ℕ
interval_count run s = run.jobs + 2 * length s.calls

-- all tasks stay with bytes of their own and do what their scripts say, and neither log is filled
pub record AreScripts (p : Setup) (passes : ℕ → ℕ) (content : List ℕ) (inputs : List (List ℕ)) (own : ℕ → ℕ → Bool) (runs : ℕ → TaskRun) (scripts : ℕ → Script) : Type 0 where
  pub own_runs : AreOwn p content inputs own runs
  pub each : (k : ℕ) → k < length p.tasks → IsScript p.plant passes (runs k) (scripts k)
  pub outputs : sum_below (length p.tasks) (λ k. length (plain_run (runs k) (scripts k).count).task.outputs) < log_size
  pub intervals : sum_below (length p.tasks) (λ k. interval_count (runs k) (scripts k)) < log_size

abbrev pub AreKept : Setup → (ℕ → ℕ → Bool) → (ℕ → TaskRun) → (ℕ → Script) → (ℕ → Promise) → Type 0
AreKept p own runs scripts promises = (k : ℕ) → k < length p.tasks → IsKept (own k) (runs k) (scripts k) (promises k)
