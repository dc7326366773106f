-- A call of a `job` without marked calls.
use Rattle.std.specs.Prelude.{◌≡◌, ◌<◌, ◌≤◌, ℕ, ◌+◌, ◌%◌, ◌^◌, false, List, [], Ok, Some, slice_get}
use Rattle.prem_plant.specs.declared.plant.Plant.{Plant}
use Rattle.prem_plant.specs.declared.plant.Device.{Device}
use Rattle.prem_plant.specs.Places.{Extent}
use Rattle.prem_isa.specs.declared.effect.Phase.TheVariants.{Compatible}
use Rattle.prem_isa.specs.Plain.{TaskState}
use Rattle.prem_syntax.specs.Syntax.{ProgramText}
use Rattle.prem_syntax.specs.Resolved.{Routine}
use Rattle.prem_syntax.specs.Statements.{ProgramState}
use Rattle.prem_syntax.specs.Source.{calls_below, everywhere}
use Rattle.prem_ranges.specs.RangesKept.{limits_of}
use Rattle.prem_layout.specs.Parts.{pass_count, stub_passes, start_part}
use Rattle.prem_layout.specs.Placed.{Coded, Placed}
use Rattle.prem_layout.specs.Plans.{Plan}
use Rattle.prem_layout.specs.Template.Frames.{frame_of}
use Rattle.prem_code_laws.specs.GenLaws.Functions.{performed}
use Rattle.prem_code_laws.specs.GenLaws.Jobs.{Between}
use Rattle.prem_sets_sound.specs.StubLaws.Initial.Standing.{setting_of, globals_in}
use Rattle.prem_sets_sound.specs.StubLaws.StubFits.Within.{codes_in}
use Rattle.prem_sets_sound.specs.TaskLaws.TaskFrame.Kept.{KeepsTaskRules}
use Rattle.prem_sets_sound.specs.TaskLaws.TaskFrame.Frames.{task_guard, job_frame}
use Rattle.prem_sets_sound.specs.TaskLaws.TaskBytes.Parts.{IsPlacedTask}
use Rattle.prem_sets_sound.specs.TaskRuns.Called.{job_calls}
use Rattle.prem_wcet_laws.specs.Scopes.{fact_of, lines_in, charge}
use Rattle.prem_wcet_laws.specs.Wcet.{known_scene, start_span}
use Rattle.prem_wcet_laws.specs.Divided.{RunDivides}
use Rattle.prem_wcet_laws.specs.Starts.{RunStarts}
use Rattle.prem_layout.specs.Footprint.{place_at}

-- where no marked call is in it, it runs in scopes and lone steps that are charged at most its least charge
abbrev pub PlacedQuietJobsDivide : Type 0
PlacedQuietJobsDivide =
    (passes : ℕ → ℕ) (p : Plant) (devices : List Device) (tasks : List Coded) (places : List Extent) (k : ℕ) (t : Placed) →
    IsPlacedTask p devices tasks places k t → passes p.«ways» ≡ pass_count (stub_passes p) →
    (x : ProgramText) → KeepsTaskRules p x t → 1 ≤ t.task.jobs → (plans : List Plan) (f : Routine) → slice_get t.task.program.routines t.task.program.job ≡ Some f →
    (st : ProgramState) (u : TaskState) (back word : ℕ) (after : ProgramState) → Between (setting_of p (task_guard t) t) (globals_in p.target t.task.program) Compatible st u →
    u.registers 2 ≡ (job_frame t).sp + frame_of f → u.registers 1 ≡ back → back % 4 ≡ 0 → back < 2 ^ 32 →
    performed (calls_below (limits_of x) t.task.program.routines t.task.program.job) everywhere f [] st ≡ Ok (word, after) →
    (fact_of (known_scene p plans t.task.program t.at) t.task.program.job).cuts ≡ false →
    RunDivides p (fact_of (known_scene p plans t.task.program t.at) t.task.program.job).least (job_calls (setting_of p (task_guard t) t) t ((codes_in t).code_part t.task.program.job) u)

-- and it is one scope with the jump from the start and the job's end, for at most the charge of the start
abbrev pub PlacedQuietStarts : Type 0
PlacedQuietStarts =
    (passes : ℕ → ℕ) (p : Plant) (devices : List Device) (tasks : List Coded) (places : List Extent) (k : ℕ) (t : Placed) →
    IsPlacedTask p devices tasks places k t → passes p.«ways» ≡ pass_count (stub_passes p) →
    (x : ProgramText) → KeepsTaskRules p x t → 1 ≤ t.task.jobs → (plans : List Plan) (f : Routine) → slice_get t.task.program.routines t.task.program.job ≡ Some f →
    (st : ProgramState) (u : TaskState) (back word : ℕ) (after : ProgramState) → Between (setting_of p (task_guard t) t) (globals_in p.target t.task.program) Compatible st u →
    u.registers 2 ≡ (job_frame t).sp + frame_of f → u.registers 1 ≡ back → back % 4 ≡ 0 → back < 2 ^ 32 →
    performed (calls_below (limits_of x) t.task.program.routines t.task.program.job) everywhere f [] st ≡ Ok (word, after) →
    (fact_of (known_scene p plans t.task.program t.at) t.task.program.job).cuts ≡ false →
    RunStarts p (lines_in (known_scene p plans t.task.program t.at) (place_at t.at start_part).0 (start_span t.task.program))
    (charge (known_scene p plans t.task.program t.at) (place_at t.at start_part).0 (start_span t.task.program))
    (place_at t.at start_part).0 ((setting_of p (task_guard t) t).places ((codes_in t).code_part t.task.program.job))
    (job_calls (setting_of p (task_guard t) t) t ((codes_in t).code_part t.task.program.job) u)
