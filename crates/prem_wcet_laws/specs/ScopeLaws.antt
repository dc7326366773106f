-- A list of statements runs as one scope.
use Rattle.std.specs.Prelude.{◌≡◌, ◌⊎◌, ◌<◌, ◌≤◌, ℕ, ◌+◌, ◌%◌, ◌^◌, true, List, [], ◌∷◌, length, slice_get, Some, Ok}
use Rattle.prem_wcet_laws.specs.Prelude.{size_of, Setting, Calls, Falls, run, AllSteps, Same, Globals, Stack, Ground, element_size, element_at, Callees, StepsFit, with_globals, Matches}
use Rattle.prem_wcet_laws.specs.Prelude.{Codes, code_calls, TaskFits, TaskState, Did, Phase, code_part, counters_in, Parts, steps_code, function_code, Extent, Access, IsAmong, callees_in}
use Rattle.prem_wcet_laws.specs.Prelude.{Steps, Routine, Limits, calls_below, ProgramState}
use Rattle.prem_syntax.specs.Statements.{run as run_source}
use Rattle.prem_wcet_laws.specs.Divided.{KeepsTo, scope_charge, StaysOn}
use Rattle.prem_wcet_laws.specs.Keeping.{is_held}
use Rattle.prem_wcet_laws.specs.Named.{globals_of}
use Rattle.prem_wcet_laws.specs.Scopes.{Scene, fact_of, extent_of, data_ranges, lines_in, charge, span_of}

abbrev pub HasExtent : Extent → List Extent → Type 0
HasExtent x [] = ⊥
HasExtent x (r ∷ rs) = (r ≡ x) ⊎ HasExtent x rs

abbrev pub AreOf : List Extent → List Extent → Type 0
AreOf xs ranges = (x : Extent) → HasExtent x xs → HasExtent x ranges

-- what a fact tells of a function: where its code stands, the globals that it names, and what its callees touch, which come before it
pub record FactStands (e : Scene) (f : ℕ) (r : Routine) : Type 0 where
  pub code : HasExtent (extent_of (e.places (code_part f)) (function_code e.parts r)) (fact_of e f).code
  pub globals : (g : ℕ) → IsAmong g (globals_of r) → HasExtent (e.global g) (fact_of e f).touched
  pub before : (c : ℕ) → IsAmong c (callees_in r.body) → c < f
  pub callee_code : (c : ℕ) → IsAmong c (callees_in r.body) → AreOf (fact_of e c).code (fact_of e f).code
  pub callee_touched : (c : ℕ) → IsAmong c (callees_in r.body) → AreOf (fact_of e c).touched (fact_of e f).touched

-- an element lies in the bytes of its global
pub record ElementLies (e : Scene) (s : Setting) (gs : Globals) (g j : ℕ) : Type 0 where
  pub begins : (e.global g).0 ≤ element_at s gs g j
  pub ends : element_at s gs g j + element_size (gs.type g) ≤ (e.global g).1

-- a scene tells of the first functions of a task, of which those without a mark may be called
pub record Stands (e : Scene) (s : Setting) (gs : Globals) (parts : Parts) (cs : Callees) (phase : Phase) (c : Codes) (routines : List Routine) (total : ℕ) : Type 0 where
  pub line : 0 < e.plant.line
  pub parts_are : e.parts ≡ with_globals gs parts
  pub places_are : (part : ℕ) → e.places part ≡ s.places part
  pub code_parts : (f : ℕ) → c.code_part f ≡ code_part f
  pub all : ℕ
  pub some : total ≤ all
  pub task : TaskFits s gs parts cs phase c routines all
  pub there : (f : ℕ) → cs.callable f ≡ true → (r : Routine) × (slice_get routines f ≡ Some r)
  pub facts : (f : ℕ) (r : Routine) → f < total → cs.callable f ≡ true → slice_get routines f ≡ Some r → FactStands e f r
  pub known : length e.facts ≡ total
  pub functions : total ≤ e.functions
  pub pieces : (f : ℕ) → f < total → (fact_of e f).pieces ≡ c.code f
  pub elements : (g j : ℕ) → j < gs.count g → ElementLies e s gs g j

-- statements run through, within their collection, for no more than their charge
pub record ScopeRun (e : Scene) (s : Setting) (calls : Calls) (n at : ℕ) (steps : Steps) (t : TaskState) : Type 0 where
  pub to : TaskState
  pub trace : List Did
  pub goes : run s calls at (steps_code e.parts n steps) t ≡ Falls to trace
  pub keeps : AllSteps (KeepsTo e.plant.line (lines_in e at (span_of e n steps))) trace
  pub stays : AllSteps StaysOn trace
  pub charged : scope_charge e.plant (lines_in e at (span_of e n steps)) trace ≤ charge e at (span_of e n steps)

-- where the stack at hand lies in what the scope may touch, the code of statements runs as one scope
abbrev pub StepsAreScopes : Type 0
StepsAreScopes =
    (e : Scene) (s : Setting) (gs : Globals) (parts : Parts) (cs : Callees) (phase : Phase) (c : Codes) (routines : List Routine) (total : ℕ) → Stands e s gs parts cs phase c routines total →
    (may : Access) (k : Stack) (limits : Limits) (calls : Calls) → Ground s gs may k → ((part : ℕ) (t : TaskState) → Same (code_calls s c total part t) (calls part t)) →
    (count under : ℕ) → k.low + under ≤ k.sp → (steps : Steps) (n at : ℕ) (t : TaskState) (p after : ProgramState) →
    count ≤ n → n + counters_in steps ≤ k.slots → at % 4 ≡ 0 → at + size_of (steps_code e.parts n steps) < 2 ^ 32 → StepsFit gs parts cs phase count under steps →
    ((f : ℕ) → IsAmong f (callees_in steps) → f < total) → ((a : ℕ) → k.low ≤ a → a < k.top → is_held (data_ranges e (span_of e n steps)) a ≡ true) →
    Matches s gs k phase count p t → run_source may (calls_below limits routines total) steps p ≡ Ok after → ScopeRun e s calls n at steps t
