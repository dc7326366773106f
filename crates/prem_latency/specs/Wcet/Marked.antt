-- The steps of a marked call, and a call of `job` as a course of scopes, lone steps and marked calls.
use Rattle.std.specs.Prelude.{◌≡◌, ◌<◌, ◌≤◌, ℕ, ◌+◌, ◌*◌, ◌%◌, ◌^◌, nat_le, Bool, true, false, ◌&&◌, List, [], ◌∷◌, map, Ok, Some, slice_get, pos}
use Rattle.prem_plant.specs.declared.plant.Plant.{Plant}
use Rattle.prem_plant.specs.declared.plant.Device.{Device}
use Rattle.prem_plant.specs.Places.{Extent}
use Rattle.prem_isa.specs.declared.effect.Change.{Change}
use Rattle.prem_isa.specs.declared.effect.Change.TheVariants.{Stay, Memory, Execute, End, Job}
use Rattle.prem_isa.specs.declared.effect.Phase.TheVariants.{Compatible}
use Rattle.prem_isa.specs.Plain.{TaskState, Did}
use Rattle.prem_syntax.specs.Syntax.{ProgramText}
use Rattle.prem_syntax.specs.Resolved.{Routine}
use Rattle.prem_syntax.specs.Statements.{ProgramState}
use Rattle.prem_syntax.specs.Source.{calls_below, everywhere}
use Rattle.prem_ranges.specs.RangesKept.{limits_of}
use Rattle.prem_layout.specs.Parts.{pass_count, stub_passes}
use Rattle.prem_layout.specs.Placed.{Coded, Placed}
use Rattle.prem_layout.specs.Template.Frames.{frame_of}
use Rattle.prem_code_laws.specs.GenLaws.Functions.{performed}
use Rattle.prem_code_laws.specs.GenLaws.Jobs.{Between}
use Rattle.prem_sets_sound.specs.StubLaws.Initial.Standing.{setting_of, globals_in}
use Rattle.prem_sets_sound.specs.StubLaws.StubFits.Within.{codes_in}
use Rattle.prem_sets_sound.specs.TaskLaws.TaskFrame.Kept.{KeepsTaskRules}
use Rattle.prem_sets_sound.specs.TaskLaws.TaskFrame.Frames.{task_guard, job_frame}
use Rattle.prem_sets_sound.specs.TaskLaws.TaskBytes.Parts.{IsPlacedTask}
use Rattle.prem_sets_sound.specs.TaskRuns.Called.{job_calls}
use Rattle.prem_wcet_laws.specs.Scopes.{fact_of}
use Rattle.prem_wcet_laws.specs.Wcet.{known_scene}
use Rattle.prem_wcet_laws.specs.Divided.{RunCourses}
use Rattle.prem_wcet_laws.specs.PartedLaws.{is_marked}
use Rattle.prem_layout.specs.Bounds.{job_weight}
use Rattle.prem_layout.specs.Plans.{Plan}
use Rattle.prem_wcet_laws.specs.Opens.{shortened}
use Rattle.prem_latency.specs.Wcet.Openings.{up_to_end, stated_of, shut_of}
use Rattle.prem_cycle.specs.Runs.Position.Finish.{due_of}
use Rattle.prem_isa.specs.declared.instr.Instr.TheVariants.{Jalr, PmMem}

-- ---- the steps of a marked call

abbrev pub is_stay : Change → Bool
is_stay Stay = true
is_stay Memory = false
is_stay (Execute stated) = false
is_stay End = false
is_stay Job = false

abbrev pub is_memory : Change → Bool
is_memory Stay = false
is_memory Memory = true
is_memory (Execute stated) = false
is_memory End = false
is_memory Job = false

-- one step that changes nothing: the return
abbrev pub returns : List Did → Bool
returns [] = false
returns (d ∷ []) = is_stay d.change
returns (d ∷ e ∷ ds) = false

-- behind a step with a change, where it is told whether what follows goes to the end of a call
abbrev pub goes_by : Change → List Did → Bool → Bool
goes_by Stay ds more = more
goes_by Memory ds more = false
goes_by (Execute stated) ds more = more
goes_by End ds more = returns ds
goes_by Job ds more = false

-- up to the end of the call, and the return
abbrev pub goes_to_end : List Did → Bool
goes_to_end [] = false
goes_to_end (d ∷ ds) = goes_by d.change ds (goes_to_end ds)

-- from `pm.mem` on
abbrev pub is_call : List Did → Bool
is_call [] = false
is_call (d ∷ ds) = is_memory d.change && goes_to_end ds

-- the first step and the last one count no more than by the rule
abbrev pub first_within : Plant → List Did → Bool
first_within p [] = true
first_within p (d ∷ ds) = nat_le (due_of p d) (job_weight p PmMem)

abbrev pub last_within : Plant → List Did → Bool
last_within p [] = true
last_within p (d ∷ []) = nat_le (due_of p d) (job_weight p (Jalr 0 4 (pos 0)))
last_within p (d ∷ e ∷ ds) = last_within p (e ∷ ds)

-- what is due for the last step
abbrev pub last_due : Plant → List Did → ℕ
last_due p [] = 0
last_due p (d ∷ []) = due_of p d
last_due p (d ∷ e ∷ ds) = last_due p (e ∷ ds)

-- `pm.mem`, two switches, what the interval counts by its steps, and the return
abbrev pub call_due : Plant → (counts : List Did → ℕ) → List Did → ℕ
call_due p counts [] = 0
call_due p counts (d ∷ ds) = due_of p d + (2 * p.switch + counts (up_to_end ds)) + last_due p ds

-- with all that is due for it, it weighs no more than this
abbrev pub is_marked_call : Plant → (counts : List Did → ℕ) → List Did → ℕ → Bool
is_marked_call p counts steps weight = is_call steps && (nat_le (call_due p counts steps) weight && (first_within p steps && last_within p steps))

-- ---- a call of `job`

-- Where the task stands between two jobs, a call of the `job` of a placed task that keeps the rules runs in scopes, lone steps and marked calls,
-- which are charged at most the parted charge that is counted for `job` with such plans.
abbrev pub JobsCourse : (counts : Plant → Placed → List Did → ℕ) (plans : Plant → Placed → List Plan) → Type 0
JobsCourse counts plans =
    (passes : ℕ → ℕ) (p : Plant) (devices : List Device) (tasks : List Coded) (places : List Extent) (k : ℕ) (t : Placed) →
    IsPlacedTask p devices tasks places k t → passes p.«ways» ≡ pass_count (stub_passes p) →
    (x : ProgramText) → KeepsTaskRules p x t → 1 ≤ t.task.jobs → (f : Routine) → slice_get t.task.program.routines t.task.program.job ≡ Some f →
    (st : ProgramState) (u : TaskState) (back word : ℕ) (after : ProgramState) → Between (setting_of p (task_guard t) t) (globals_in p.target t.task.program) Compatible st u →
    u.registers 2 ≡ (job_frame t).sp + frame_of f → u.registers 1 ≡ back → back % 4 ≡ 0 → back < 2 ^ 32 →
    performed (calls_below (limits_of x) t.task.program.routines t.task.program.job) everywhere f [] st ≡ Ok (word, after) →
    RunCourses p (is_marked (is_marked_call p (counts p t))) (fact_of (known_scene p (plans p t) t.task.program t.at) t.task.program.job).parted
    (job_calls (setting_of p (task_guard t) t) t ((codes_in t).code_part t.task.program.job) u)

-- with the lengths that they state
abbrev pub PlacedJobsCourse : Type 0
PlacedJobsCourse = JobsCourse (λ p t. stated_of) (λ p t. t.plans)

-- and with those for which their intervals keep the bus closed to transfers of such a cost
abbrev pub PlacedJobsShut : Type 0
PlacedJobsShut = (top : ℕ) → JobsCourse (λ p t. shut_of p top) (λ p t. map (shortened p t.at top) t.plans)
