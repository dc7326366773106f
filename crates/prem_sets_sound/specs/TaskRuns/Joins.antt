-- The run of a placed task that keeps the rules joins: it goes along a weave, gives what its source means, and stays within its bounds.
use Rattle.std.specs.Prelude.{◌≡◌, ◌<◌, ◌≤◌, ◌^◌, ℕ, Bool, max, All, List, [], slice_index_or}
use Rattle.prem_sets_sound.specs.Prelude.{Setting, Calls, Globals, run_in, Setup, TaskRun, global_range, pass_count, stub_passes, Coded, Placed, stretch_of, greatest_stated, Extent, Device}
use Rattle.prem_sets_sound.specs.Prelude.{Plant, limits_of, Promise, Resolved, Limits, ProgramText}
use Rattle.prem_sets_sound.specs.TaskRuns.Called.{job_calls}
use Rattle.prem_sets_sound.specs.StubLaws.Initial.Initial.{content_of}
use Rattle.prem_sets_sound.specs.StubLaws.Initial.Standing.{setting_of, globals_in}
use Rattle.prem_sets_sound.specs.StubLaws.JobWeave.Jobs.{JobsAlong}
use Rattle.prem_sets_sound.specs.StubLaws.JoinedRuns.Joined.{JobLimits, TaskJoins}
use Rattle.prem_sets_sound.specs.StubLaws.Own.Owned.{own_of, setup_of}
use Rattle.prem_sets_sound.specs.StubLaws.StubFits.Within.{codes_in}
use Rattle.prem_sets_sound.specs.TaskLaws.TaskBytes.Parts.{IsPlacedTask}
use Rattle.prem_sets_sound.specs.TaskLaws.TaskFrame.Frames.{task_guard}
use Rattle.prem_sets_sound.specs.TaskLaws.TaskFrame.Kept.{KeepsTaskRules}
use Rattle.prem_sets_sound.specs.TaskLaws.TaskFrame.Limits.{task_limits}
use Rattle.prem_sets_sound.specs.Weave.Pace.Pace.{PacedFrom, AreStated}
use Rattle.prem_sets_sound.specs.Weave.Promise.Promised.{promise_in}

-- what a placed task's source means for its input words
abbrev pub promise_for : ProgramText → Placed → List ℕ → Promise
promise_for x t words = promise_in (λ g. (global_range t.at g).0) x words t.task.jobs

abbrev pub TasksJoin : Type 0
TasksJoin =
    (passes : ℕ → ℕ) (p : Plant) (devices : List Device) (tasks : List Coded) (places : List Extent) (k : ℕ) (t : Placed) →
    IsPlacedTask p devices tasks places k t → passes p.«ways» ≡ pass_count (stub_passes p) →
    (x : ProgramText) → KeepsTaskRules p x t → 1 ≤ t.task.jobs → (inputs : List (List ℕ)) → All (λ word. word < 2 ^ 32) (slice_index_or inputs k []) →
    TaskJoins (setup_of p devices places tasks) passes (own_of tasks places k)
    (run_in (setup_of p devices places tasks) (content_of p places tasks) inputs k) (task_limits p t) (promise_for x t (slice_index_or inputs k []))

-- a task joins along a weave whose jobs take at most their cycles, and whose stretches and calls last no longer than so many
pub record TaskPaces (p : Setup) (passes : ℕ → ℕ) (own : ℕ → Bool) (run : TaskRun) (most : JobLimits) (longest : ℕ) (q : Promise) : Type 0 where
  pub joins : TaskJoins p passes own run most q
  pub paced : PacedFrom p.plant most.cycles longest 0 0 joins.weave
  pub stated : AreStated longest joins.weave

-- the greatest stretch of a placed task, and the stated lengths of its marked functions
abbrev pub task_longest : Plant → Placed → ℕ
task_longest p t = max (stretch_of p t.plans t.table) (greatest_stated t.plans)

abbrev pub TasksPace : Type 0
TasksPace =
    (passes : ℕ → ℕ) (p : Plant) (devices : List Device) (tasks : List Coded) (places : List Extent) (k : ℕ) (t : Placed) →
    IsPlacedTask p devices tasks places k t → passes p.«ways» ≡ pass_count (stub_passes p) →
    (x : ProgramText) → KeepsTaskRules p x t → 1 ≤ t.task.jobs → (inputs : List (List ℕ)) → All (λ word. word < 2 ^ 32) (slice_index_or inputs k []) →
    TaskPaces (setup_of p devices places tasks) passes (own_of tasks places k)
    (run_in (setup_of p devices places tasks) (content_of p places tasks) inputs k) (task_limits p t) (task_longest p t)
    (promise_for x t (slice_index_or inputs k []))

-- such a task with what its jobs do, each of which calls `job` where the program does, and with the lengths of its marked calls
pub record JobsTell (p : Setup) (passes : ℕ → ℕ) (own : ℕ → Bool) (run : TaskRun) (most : JobLimits) (longest named : ℕ) (s : Setting) (gs : Globals)
    (limits : Limits) (program : Resolved) (calls : Calls) (start job : ℕ) (q : Promise) : Type 0 where
  pub paces : TaskPaces p passes own run most longest q
  pub along : JobsAlong p.plant passes s gs limits program run calls start job paces.joins.weave
  pub stated : AreStated named paces.joins.weave

abbrev pub TasksTell : Type 0
TasksTell =
    (passes : ℕ → ℕ) (p : Plant) (devices : List Device) (tasks : List Coded) (places : List Extent) (k : ℕ) (t : Placed) →
    IsPlacedTask p devices tasks places k t → passes p.«ways» ≡ pass_count (stub_passes p) →
    (x : ProgramText) → KeepsTaskRules p x t → 1 ≤ t.task.jobs → (inputs : List (List ℕ)) → All (λ word. word < 2 ^ 32) (slice_index_or inputs k []) →
    JobsTell (setup_of p devices places tasks) passes (own_of tasks places k)
    (run_in (setup_of p devices places tasks) (content_of p places tasks) inputs k) (task_limits p t) (task_longest p t) (greatest_stated t.plans)
    (setting_of p (task_guard t) t) (globals_in p.target t.task.program) (limits_of x) t.task.program (job_calls (setting_of p (task_guard t) t) t) 0
    ((codes_in t).code_part t.task.program.job) (promise_for x t (slice_index_or inputs k []))
