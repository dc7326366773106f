-- The start of a job without marked calls, its call, and the job's end as one scope.
use Rattle.std.specs.Prelude.{◌≡◌, ◌<◌, ◌≤◌, ℕ, ◌+◌, ◌%◌, ◌^◌, None, Ok, List, [], ◌∷◌, ◌++◌, length, slice_get, Some}
use Rattle.prem_wcet_laws.specs.Prelude.{jump_to, Setting, Calls, Ending, Falls, Returns, Stuck, run, Same, AllSteps, Globals, Stack, Ground, Callees, FunctionFits, performed, Between}
use Rattle.prem_wcet_laws.specs.Prelude.{ArgumentsStand, Codes, code_calls, TaskState, Did, Stay, Phase, TaskPlaces, place_at, start_part, Plan, slots_of, frame_of, parts_of, Parts}
use Rattle.prem_wcet_laws.specs.Prelude.{function_code, Plant, Routine, Resolved, Limits, calls_below, everywhere, ProgramState}
use Rattle.prem_asm.specs.OwnRun.{done_step}
use Rattle.prem_isa.specs.declared.effect.Phase.TheVariants.{Compatible}
use Rattle.prem_wcet_laws.specs.Divided.{KeepsTo, StaysOn, scope_charge}
use Rattle.prem_wcet_laws.specs.Scenes.{TaskStands, FrameStands}
use Rattle.prem_wcet_laws.specs.Scopes.{lines_in, charge}
use Rattle.prem_wcet_laws.specs.Wcet.{known_scene, start_span}

-- the jump from the start to `job`, the steps of its call, and the job's end
abbrev pub start_steps : (start job : ℕ) → List Did → List Did
start_steps start job trace = record { pc = start; instr = jump_to 1 start job; phase = Compatible; access = None; change = Stay } ∷ (trace ++ done_step (start + 4) ∷ [])

-- they keep to a collection, for at most so much
abbrev pub RunStarts : Plant → (lines : List ℕ) → (most start job : ℕ) → Ending → Type 0
RunStarts p lines most start job (Falls t trace) = Unit {0}
RunStarts p lines most start job (Returns back t trace) =
    AllSteps (KeepsTo p.line lines) (start_steps start job trace) × (AllSteps StaysOn trace × (scope_charge p lines (start_steps start job trace) ≤ most))
RunStarts p lines most start job Stuck = Unit {0}

-- where `job` calls functions without a mark alone
abbrev pub QuietStartsAreScopes : Type 0
QuietStartsAreScopes =
    (p : Plant) (plans : List Plan) (program : Resolved) (t : TaskPlaces) (s : Setting) (gs : Globals) (parts : Parts) (cs : Callees) (phase : Phase)
    (c : Codes) → TaskStands p program t s gs parts cs phase c program.job →
    (limits : Limits) (calls : Calls) → ((part : ℕ) (u : TaskState) → Same (code_calls s c program.job part u) (calls part u)) → (f : Routine) → slice_get program.routines program.job ≡ Some f →
    (k : Stack) → Ground s gs everywhere k → FrameStands program t k → (depth under : ℕ) →
    FunctionFits gs parts cs phase (s.places (c.code_part program.job)) depth under f → k.slots ≡ slots_of f → k.low + under ≤ k.sp →
    (words : List ℕ) (st : ProgramState) (u : TaskState) (back word : ℕ) (after : ProgramState) → length words ≡ length f.text.params → ArgumentsStand u.view k.sp words →
    Between s gs phase st u → u.registers 2 ≡ k.sp + frame_of f → k.sp + frame_of f < 2 ^ 32 → u.registers 1 ≡ back → back % 4 ≡ 0 → back < 2 ^ 32 →
    performed (calls_below limits program.routines program.job) everywhere f words st ≡ Ok (word, after) →
    RunStarts p (lines_in (known_scene p plans program t) (place_at t start_part).0 (start_span program)) (charge (known_scene p plans program t) (place_at t start_part).0 (start_span program))
    (place_at t start_part).0 (s.places (c.code_part program.job)) (run s calls (s.places (c.code_part program.job)) (function_code (parts_of p.target program.routines) f) u)
