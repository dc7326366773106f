-- What a task's program does in a number of jobs.
use Rattle.std.specs.Prelude.{ℕ, zero, suc, ◌^◌, ◌==◌, ℤ, Bool, true, false, if◌then◌else◌, List, [], ◌∷◌, ◌++◌, length, map, take, replicate, slice_get, unwrap_or, Option, None, Some, Ok, Err}
use Rattle.prem_word.specs.Words.{word_of}
use Rattle.prem_syntax.specs.Syntax.{InitialValue, absent, one, many, GlobalVariable, ProgramText}
use Rattle.prem_syntax.specs.Resolved.{Routine, Resolved}
use Rattle.prem_syntax.specs.Resolve.{resolve}
use Rattle.prem_syntax.specs.Expressions.{Outcome, and_then, Access}
use Rattle.prem_syntax.specs.Statements.{ProgramState, Calls, stored, is_marked, enter}

-- What a run may do. In the meaning of a program nothing is ever refused: an int has 2 ^ 32 values, so no counting loop takes more turns.
pub record Limits : Type 0 where
  pub turns : ℕ → ℕ  -- the turns of the n-th counting loop
  pub inside : ℕ → Access  -- what a marked function, and those that it calls, may access

abbrev pub unlimited : Limits
unlimited = record { turns = λ n. 2 ^ 32; inside = λ f g j. true }

abbrev pub access_of : Limits → Routine → ℕ → Access → Access
access_of limits f n may = if is_marked f then limits.inside n else may

abbrev pub enter_if_there : Limits → Calls → Option Routine → ℕ → Calls
enter_if_there limits calls None n may f ws s = Err 0
enter_if_there limits calls (Some routine) n may f ws s = enter calls (access_of limits routine n may) routine n ws s

abbrev pub this_or : Bool → Calls → Calls → Calls
this_or true this others = this
this_or false this others = others

-- calls of the functions below a number; a function calls those before it
abbrev pub calls_below : Limits → List Routine → ℕ → Calls
calls_below limits routines zero may f ws s = Err 0
calls_below limits routines (suc n) may f ws s =
    this_or (f == n) (enter_if_there limits (calls_below limits routines n) (slice_get routines n) n) (calls_below limits routines n) may f ws s

-- the constants of an initial value
abbrev pub constants_of : InitialValue → List ℤ
constants_of absent = []
constants_of (one z) = z ∷ []
constants_of (many zs) = zs

-- constants keep the low bits that fit the type; missing ones are 0
abbrev pub initial_words : GlobalVariable → List ℕ
initial_words g = take (unwrap_or g.len 1) (map (λ z. stored g.ty (word_of z)) (constants_of g.initial) ++ replicate (unwrap_or g.len 1) 0)

abbrev pub start : Resolved → List ℕ → ProgramState
start p inputs = record {
  globals = map initial_words p.globals;
  locals = [];
  inputs = inputs;
  used = 0;
  outputs = [];
  marks = [];
}

abbrev pub everywhere : Access
everywhere g j = true

-- jobs, one after another
abbrev pub do_jobs : Limits → Resolved → ℕ → ProgramState → Outcome ProgramState
do_jobs limits p zero s = Ok s
do_jobs limits p (suc n) s =
    and_then (calls_below limits p.routines (length p.routines) everywhere p.job [] s) (λ r. do_jobs limits p n r.1)

abbrev pub source_within : Limits → ProgramText → List ℕ → ℕ → Outcome ProgramState
source_within limits p inputs jobs = do_jobs limits (resolve limits.turns p) jobs (start (resolve limits.turns p) inputs)

-- the state after so many jobs, or wrong at a line
abbrev pub source : ProgramText → List ℕ → ℕ → Outcome ProgramState
source p inputs jobs = source_within unlimited p inputs jobs
