-- What a job is charged: no more than its bound.
use Rattle.std.specs.Prelude.{◌≡◌, ◌<◌, ◌≤◌, ◌⊎◌, ℕ, nat_lt, nat_le, ◌||◌, Bool, true, List, length, Some, slice_get}
use Rattle.prem_sets_sound.specs.Prelude.{Pieces, Setting, IsRunning, Codes, with_part, code_calls, IsStub, no_calls, Setup, TaskRun, CodeTable, part_weight, weight_at, marked_weights}
use Rattle.prem_sets_sound.specs.Prelude.{job_weights, job_bound_of, code_part, Placed, Plan, marked_before, Plant}
use Rattle.prem_layout.specs.Parts.{stub_part}
use Rattle.prem_sets_sound.specs.StubLaws.JobCharges.Charged.{EachCall}
use Rattle.prem_sets_sound.specs.StubLaws.JobWeave.Calm.{CalmStands}
use Rattle.prem_sets_sound.specs.StubLaws.JobWeave.Charged.{CallIsCharged, job_charge}
use Rattle.prem_sets_sound.specs.StubLaws.JobWeave.Confined.{Confinement, confined_calls, ConfinedStands}
use Rattle.prem_sets_sound.specs.StubLaws.StubFits.Costs.{IsOf}
use Rattle.prem_sets_sound.specs.StubLaws.StubFits.Within.{codes_in}

-- a part is the stub of a plan, of such a stated length
pub record IsPlanned (plans : List Plan) (functions part stated : ℕ) : Type 0 where
  pub number : ℕ
  pub plan : Plan
  pub there : slice_get plans number ≡ Some plan
  pub part_is : part ≡ stub_part functions number
  pub stated_is : stated ≡ plan.stated

-- the stub of a marked function stands under its guard, and is that of a plan
pub record PlannedStands (setup : Setup) (owned : ℕ → Bool) (passes : ℕ → ℕ) (s : Setting) (c : Codes) (x : Confinement) (own : TaskRun) (ended : ℕ)
    (bytes : ℕ → ℕ) (parts total : ℕ) (plans : List Plan) (functions n : ℕ) : Type 0 where
  pub stands : ConfinedStands setup owned passes s c x own ended bytes parts total n
  pub planned : IsPlanned plans functions (c.stub_part n) stands.at.stated

-- the part of a function that stands before another, or of a stub
abbrev pub stands_before : (functions n : ℕ) → ℕ → Bool
stands_before functions n part = nat_le part n || nat_lt functions part

-- its calls are of functions that stand before a function, and of stubs: no others may be called, or its code calls no others
abbrev pub CallsBefore : (functions total n : ℕ) → Pieces → Type 0
CallsBefore functions total n ps = (total ≤ n) ⊎ EachCall (λ part. stands_before functions n part ≡ true) ps

-- what is known of the code of a task's functions and stubs
pub record TableStands (setup : Setup) (owned : ℕ → Bool) (passes : ℕ → ℕ) (s : Setting) (c : Codes) (inner : ℕ → Confinement) (own : TaskRun)
    (ended : ℕ) (bytes : ℕ → ℕ) (parts total : ℕ) (plans : List Plan) (table : CodeTable) : Type 0 where
  pub codes : IsOf table c
  pub count : total ≤ length table.code
  pub running : IsRunning s own ended
  pub code : (n : ℕ) → n < total → CalmStands owned s bytes parts (c.code_part n) (c.code n)
  pub stubs : (n : ℕ) → IsStub c total n → PlannedStands setup owned passes s c (inner n) own ended bytes parts total plans (length table.code) n

-- the weight of a part, as the bound of a job counts it
abbrev pub weight_in : Plant → List Plan → CodeTable → ℕ → ℕ
weight_in plant plans table part = part_weight (length table.code) (weight_at (job_weights plant plans table)) (marked_weights plant plans) part

-- calls of functions and stubs, and of a function that calls those before it, are charged at most what the bounds count
abbrev pub PartsAreCharged : Type 0
PartsAreCharged =
    (setup : Setup) (owned : ℕ → Bool) (passes : ℕ → ℕ) (s : Setting) (c : Codes) (inner : ℕ → Confinement) (own : TaskRun) (ended : ℕ)
    (bytes : ℕ → ℕ) (parts total job : ℕ) (plans : List Plan) (table : CodeTable) →
    TableStands setup owned passes s c inner own ended bytes parts total plans table → job < length table.code → CalmStands owned s bytes parts (c.code_part job) (c.code job) →
    CallsBefore (length table.code) total job (c.code job) → (part : ℕ) →
    CallIsCharged setup.plant (with_part s (c.code_part job) (c.code job) (confined_calls s c inner total (code_calls s c total) total) no_calls) part (weight_in setup.plant plans table part)

-- the start, where `job` weighs so much, weighs no more than the bound of a job
abbrev pub JobsAreBounded : Type 0
JobsAreBounded =
    (plant : Plant) (plans : List Plan) (table : CodeTable) (part : ℕ) → part ≡ code_part table.job → job_charge plant part (weight_in plant plans table part) ≤ job_bound_of plant plans table

-- ---- a placed task

-- the stub of a marked function stands under its guard with the stated length of its plan
pub record PlanStands (setup : Setup) (owned : ℕ → Bool) (passes : ℕ → ℕ) (s : Setting) (t : Placed) (x : Confinement) (own : TaskRun) (ended : ℕ) (bytes : ℕ → ℕ) (parts n : ℕ) : Type 0 where
  pub stands : ConfinedStands setup owned passes s (codes_in t) x own ended bytes parts t.task.program.job n
  pub plan : Plan
  pub there : slice_get t.plans (marked_before n t.task.program.routines) ≡ Some plan
  pub stated_is : stands.at.stated ≡ plan.stated

-- what is known of the code of a placed task, whose `job` may call the functions before it
pub record PlacedStands (setup : Setup) (owned : ℕ → Bool) (passes : ℕ → ℕ) (s : Setting) (t : Placed) (inner : ℕ → Confinement) (own : TaskRun) (ended : ℕ) (bytes : ℕ → ℕ) (parts : ℕ) : Type 0 where
  pub count : length t.table.code ≡ length t.task.program.routines
  pub job_is : t.table.job ≡ t.task.program.job
  pub below : t.task.program.job < length t.task.program.routines
  pub running : IsRunning s own ended
  pub code : (n : ℕ) → n < length t.task.program.routines → CalmStands owned s bytes parts ((codes_in t).code_part n) ((codes_in t).code n)
  pub stubs : (n : ℕ) → IsStub (codes_in t) t.task.program.job n → PlanStands setup owned passes s t (inner n) own ended bytes parts n

-- a call of its `job` is charged at most its weight, and the start with it weighs no more than the bound of a job
abbrev pub PlacedJobsAreBounded : Type 0
PlacedJobsAreBounded =
    (setup : Setup) (owned : ℕ → Bool) (passes : ℕ → ℕ) (s : Setting) (t : Placed) (inner : ℕ → Confinement) (own : TaskRun) (ended : ℕ) (bytes : ℕ → ℕ) (parts : ℕ) →
    PlacedStands setup owned passes s t inner own ended bytes parts →
    CallIsCharged setup.plant (with_part s ((codes_in t).code_part t.task.program.job) ((codes_in t).code t.task.program.job)
    (confined_calls s (codes_in t) inner t.task.program.job (code_calls s (codes_in t) t.task.program.job) t.task.program.job) no_calls)
    ((codes_in t).code_part t.task.program.job) (weight_in setup.plant t.plans t.table ((codes_in t).code_part t.task.program.job))
    × (job_charge setup.plant ((codes_in t).code_part t.task.program.job)
    (weight_in setup.plant t.plans t.table ((codes_in t).code_part t.task.program.job)) ≤ job_bound_of setup.plant t.plans t.table)
