-- Lists of statements with marked calls run in scopes and marked calls, which together are charged no more than their parted charge.
use Rattle.std.specs.Prelude.{◌≡◌, ◌<◌, ◌≤◌, ℕ, ◌+◌, ◌-◌, ◌%◌, ◌^◌, Bool, true, false, List, length, Ok}
use Rattle.prem_wcet_laws.specs.Prelude.{size_of, Setting, Calls, Ending, run, Globals, Stack, Callees, StepsFit, FunctionFits, performed, Between, CalleesAt, Matches, ArgumentsStand, Codes}
use Rattle.prem_wcet_laws.specs.Prelude.{TaskState, Did, Phase, counters_in, slots_of, frame_of, Parts, steps_code, function_code, Plant, Outcome, Access, Steps, Routine, Limits}
use Rattle.prem_wcet_laws.specs.Prelude.{calls_below, ProgramState}
use Rattle.prem_syntax.specs.Statements.{run as run_source}
use Rattle.prem_wcet_laws.specs.Counts.{PathCount}
use Rattle.prem_wcet_laws.specs.Divided.{RunCourses}
use Rattle.prem_wcet_laws.specs.LeastLaws.{Works}
use Rattle.prem_wcet_laws.specs.Parted.{cuts, bottom_of, no_edge, begins, called_parted, parted, parted_function}
use Rattle.prem_wcet_laws.specs.ScopeLaws.{Stands}
use Rattle.prem_wcet_laws.specs.Scopes.{Scene}

-- calls from a frame run in scopes and marked calls that are charged at most so much
pub record CallCourses (p : Plant) (Marked : List Did → ℕ → Type 0) (most : PathCount) (s : Setting) (gs : Globals) (k : Stack) (phase : Phase)
    (o : TaskState → Ending) (link frame depth params : ℕ) (call : List ℕ → ProgramState → Outcome (ℕ × ProgramState)) : Type 0 where
  pub courses : (count : ℕ) (st : ProgramState) (words : List ℕ) (t : TaskState) (back word : ℕ) (after : ProgramState) →
      Matches s gs k phase count st t → t.registers link ≡ back → back % 4 ≡ 0 → back < 2 ^ 32 → k.low + depth ≤ k.sp → length words ≡ params → ArgumentsStand t.view (k.sp - frame) words →
      call words st ≡ Ok (word, after) → RunCourses p Marked most (o t)

-- a frame that works, from which functions are called in which marked calls are, too
pub record Mixes (e : Scene) (s : Setting) (gs : Globals) (parts : Parts) (cs every : Callees) (phase : Phase) (c : Codes) (routines : List Routine)
    (total : ℕ) (may : Access) (limits : Limits) (calls : Calls) (k : Stack) (Marked : List Did → ℕ → Type 0) : Type 0 where
  pub works : Works e s gs parts cs phase c routines total may limits calls k
  pub callees : CalleesAt s gs may k calls parts every phase (calls_below limits routines total)
  pub quiet : (f : ℕ) → every.callable f ≡ true → cuts e f ≡ false → (f < total) × (cs.callable f ≡ true)
  pub depths : (f : ℕ) → every.depth f ≡ cs.depth f
  pub params : (f : ℕ) → every.params f ≡ cs.params f
  pub returns : (f : ℕ) → every.returns f ≡ cs.returns f
  pub bottom : bottom_of e.stack ≡ k.sp
  pub courses : (f : ℕ) → every.callable f ≡ true → cuts e f ≡ true →
      CallCourses e.plant Marked (called_parted e f) s gs k phase (calls (parts.callee f)) (parts.link f) (parts.frame f) (every.depth f)
      (every.params f) (λ words st. calls_below limits routines total may f words st)

-- a marked call's steps and its weight, as they are told
abbrev pub is_marked : (List Did → ℕ → Bool) → List Did → ℕ → Type 0
is_marked marked steps weight = marked steps weight ≡ true

-- a list of statements runs in scopes and marked calls that are charged at most its parted charge
abbrev pub StepsCourse : Type 0
StepsCourse =
    (e : Scene) (s : Setting) (gs : Globals) (parts : Parts) (cs every : Callees) (phase : Phase) (c : Codes) (routines : List Routine) (total : ℕ) → Stands e s gs parts cs phase c routines total →
    (may : Access) (limits : Limits) (calls : Calls) (k : Stack) (marked : List Did → ℕ → Bool) → Mixes e s gs parts cs every phase c routines total may limits calls k (is_marked marked) →
    (count under : ℕ) → k.low + under ≤ k.sp → (steps : Steps) (n at : ℕ) (t : TaskState) (st after : ProgramState) →
    count ≤ n → n + counters_in steps ≤ k.slots → at % 4 ≡ 0 → at + size_of (steps_code e.parts n steps) < 2 ^ 32 → StepsFit gs parts every phase count under steps →
    Matches s gs k phase count st t → run_source may (calls_below limits routines total) steps st ≡ Ok after →
    RunCourses e.plant (is_marked marked) (parted e (begins at no_edge) no_edge n at steps) (run s calls at (steps_code e.parts n steps) t)

-- from a function's own frame k on, whose end x2 holds before, its code does
abbrev pub FunctionsCourse : Type 0
FunctionsCourse =
    (e : Scene) (s : Setting) (gs : Globals) (parts : Parts) (cs every : Callees) (phase : Phase) (c : Codes) (routines : List Routine) (total : ℕ) → Stands e s gs parts cs phase c routines total →
    (may : Access) (limits : Limits) (calls : Calls) (k : Stack) (marked : List Did → ℕ → Bool) → Mixes e s gs parts cs every phase c routines total may limits calls k (is_marked marked) →
    (f : Routine) (at depth under : ℕ) → FunctionFits gs parts every phase at depth under f → k.slots ≡ slots_of f → k.low + under ≤ k.sp →
    (words : List ℕ) (st : ProgramState) (t : TaskState) (back word : ℕ) (after : ProgramState) → length words ≡ length f.text.params → ArgumentsStand t.view k.sp words →
    Between s gs phase st t → t.registers 2 ≡ k.sp + frame_of f → k.sp + frame_of f < 2 ^ 32 →
    t.registers 1 ≡ back → back % 4 ≡ 0 → back < 2 ^ 32 → performed (calls_below limits routines total) may f words st ≡ Ok (word, after) →
    RunCourses e.plant (is_marked marked) (parted_function e f at) (run s calls at (function_code e.parts f) t)

-- a callee's own frame, below the caller's
abbrev pub callee_frame : Stack → Routine → Stack
callee_frame k r = record { low = k.low; top = k.sp; sp = k.sp - frame_of r; slots = slots_of r }
