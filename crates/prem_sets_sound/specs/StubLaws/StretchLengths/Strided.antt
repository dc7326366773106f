-- The stretches of runs of pieces and calls.
use Rattle.std.specs.Prelude.{◌≡◌, ◌⊎◌, ◌<◌, ℕ, Bool, false, List, length}
use Rattle.prem_sets_sound.specs.Prelude.{Pieces, no_pieces, straight, address_of, either, repeat, call_to, code_of, EachInstr, EachPiece, Setting, Calls, Ending, Falls, Returns, Stuck}
use Rattle.prem_sets_sound.specs.Prelude.{is_return, run, AllCode, Codes, with_part, code_calls, no_calls, Setup, TaskRun, TaskState, Instr, CodeTable, job_weight, Placed, Plan, stretch_of}
use Rattle.prem_sets_sound.specs.Prelude.{Sums, summed, greatest, part_sums, sums_at, job_sums, marked_sums, IsWithin, Parts, function_code, Plant, Routine}
use Rattle.prem_sets_sound.specs.StubLaws.JobCharges.Charged.{IsReady, EachCall}
use Rattle.prem_sets_sound.specs.StubLaws.JobCharges.Dues.{TableStands, CallsBefore, PlacedStands}
use Rattle.prem_sets_sound.specs.StubLaws.JobWeave.Calm.{CalmStands}
use Rattle.prem_sets_sound.specs.StubLaws.JobWeave.Charged.{CallIsStrided, start_sums}
use Rattle.prem_sets_sound.specs.StubLaws.JobWeave.Confined.{Confinement, confined_calls}
use Rattle.prem_sets_sound.specs.StubLaws.StubFits.Within.{codes_in}
use Rattle.prem_sets_sound.specs.Weave.Pace.Pace.{strides}
use Rattle.prem_sets_sound.specs.Weave.Path.Woven.{CalmAt}

-- ---- code that returns at its end alone

abbrev pub GoesOn : Instr → Type 0
GoesOn i = is_return i ≡ false

-- only the last instructions of pieces may return
abbrev pub ReturnsLast : Pieces → Type 0
ReturnsLast no_pieces = Unit {0}
ReturnsLast (straight code rest) = (EachInstr GoesOn code × ReturnsLast rest) ⊎ (rest ≡ no_pieces)
ReturnsLast (address_of rd part more rest) = ReturnsLast rest
ReturnsLast (either test taken other rest) = EachPiece GoesOn taken × EachPiece GoesOn other × ReturnsLast rest
ReturnsLast (repeat turns head test body rest) = EachPiece GoesOn head × EachPiece GoesOn body × ReturnsLast rest
ReturnsLast (call_to link part rest) = ReturnsLast rest

-- the code of a function does so
abbrev pub FunctionsReturnLast : Type 0
FunctionsReturnLast = (parts : Parts) (f : Routine) → ReturnsLast (function_code parts f)

-- ---- runs

-- a run that falls through has no greater sums, and leaves the task ready
abbrev pub FallsStrided : Plant → Sums → Ending → Type 0
FallsStrided plant sums (Falls t trace) = IsWithin (strides plant trace) sums × IsReady t
FallsStrided plant sums (Returns back t trace) = ⊥
FallsStrided plant sums Stuck = Unit {0}

-- however it ends
abbrev pub IsStrided : Plant → Sums → Ending → Type 0
IsStrided plant sums (Falls t trace) = IsWithin (strides plant trace) sums × IsReady t
IsStrided plant sums (Returns back t trace) = IsWithin (strides plant trace) sums × IsReady t
IsStrided plant sums Stuck = Unit {0}

-- a call, which returns
abbrev pub ReturnsStrided : Plant → Sums → Ending → Type 0
ReturnsStrided plant sums (Falls t trace) = Unit {0}
ReturnsStrided plant sums (Returns back t trace) = IsWithin (strides plant trace) sums × IsReady t
ReturnsStrided plant sums Stuck = Unit {0}

abbrev pub PartStrided : Plant → Calls → Sums → (part : ℕ) → Type 0
PartStrided plant calls sums part = (t : TaskState) → IsReady t → ReturnsStrided plant sums (calls part t)

-- ---- the law

-- code that changes no phase has no greater sums than its pieces, where its calls have no greater ones than theirs
abbrev pub CalmRunsAreStrided : Type 0
CalmRunsAreStrided =
    (plant : Plant) (s : Setting) (calls : Calls) (sums : ℕ → Sums) (ps : Pieces) (at : ℕ) → AllCode CalmAt at (code_of s.places at ps) → ReturnsLast ps →
    EachCall (λ part. PartStrided plant calls (sums part) part) ps → (t : TaskState) → IsReady t →
    IsStrided plant (summed (job_weight plant) sums ps) (run s calls at ps t)

-- ---- a task

-- the sums of a part, as the stretches of a task have them
abbrev pub sums_in : Plant → List Plan → CodeTable → ℕ → Sums
sums_in plant plans table part = part_sums (length table.code) (sums_at (job_sums plant plans table)) (marked_sums plant plans) part

-- calls of functions and stubs, and of a function that calls those before it, have no greater sums than their code
abbrev pub PartsAreStrided : Type 0
PartsAreStrided =
    (setup : Setup) (owned : ℕ → Bool) (passes : ℕ → ℕ) (s : Setting) (c : Codes) (inner : ℕ → Confinement) (own : TaskRun) (ended : ℕ)
    (bytes : ℕ → ℕ) (parts total job : ℕ) (plans : List Plan) (table : CodeTable) →
    TableStands setup owned passes s c inner own ended bytes parts total plans table → ((n : ℕ) → n < total → ReturnsLast (c.code n)) →
    job < length table.code → CalmStands owned s bytes parts (c.code_part job) (c.code job) → ReturnsLast (c.code job) →
    CallsBefore (length table.code) total job (c.code job) → (part : ℕ) →
    CallIsStrided setup.plant (with_part s (c.code_part job) (c.code job) (confined_calls s c inner total (code_calls s c total) total) no_calls) part (sums_in setup.plant plans table part)

-- a call of a placed task's `job` has no greater sums than its code
abbrev pub PlacedJobsAreStrided : Type 0
PlacedJobsAreStrided =
    (setup : Setup) (owned : ℕ → Bool) (passes : ℕ → ℕ) (s : Setting) (t : Placed) (inner : ℕ → Confinement) (own : TaskRun) (ended : ℕ) (bytes : ℕ → ℕ) (parts : ℕ) →
    PlacedStands setup owned passes s t inner own ended bytes parts → ((n : ℕ) → n < length t.task.program.routines → ReturnsLast ((codes_in t).code n)) →
    CallIsStrided setup.plant (with_part s ((codes_in t).code_part t.task.program.job) ((codes_in t).code t.task.program.job)
    (confined_calls s (codes_in t) inner t.task.program.job (code_calls s (codes_in t) t.task.program.job) t.task.program.job) no_calls)
    ((codes_in t).code_part t.task.program.job) (sums_in setup.plant t.plans t.table ((codes_in t).code_part t.task.program.job))
    × (stretch_of setup.plant t.plans t.table ≡ greatest (start_sums setup.plant (sums_in setup.plant t.plans t.table ((codes_in t).code_part t.task.program.job))))
