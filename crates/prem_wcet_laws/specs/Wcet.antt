-- What a job of a task really takes at most, and its longest stretch with the switch before it.
use Rattle.std.specs.Prelude.{ℕ, ◌+◌, ◌-◌, ◌==◌, max, min, if◌then◌else◌, List, [], ◌∷◌, ◌++◌, length}
use Rattle.prem_wcet_laws.specs.Prelude.{PmDone, start_code, job_weight, TaskPlaces, place_at, global_range, stack_place, code_part, start_part, Plan, greatest_stated, taking, chained}
use Rattle.prem_wcet_laws.specs.Prelude.{greatest, frame_at, parts_of, is_marked_at, marked_before, function_code, Extent, Plant, Routine, Resolved}
use Rattle.prem_wcet_laws.specs.Least.{own_jump, least_function}
use Rattle.prem_wcet_laws.specs.Parted.{has_cut, parted_function}
use Rattle.prem_wcet_laws.specs.Scopes.{Fact, Scene, fact_of, Span, code_ranges, data_ranges, charge, function_span}

-- ---- the facts of functions

-- the frame of `job`, and the bytes below it: what the functions take that it calls, and the stack range of each marked one
abbrev pub frame_range : Resolved → TaskPlaces → Extent
frame_range program t = ((stack_place t).1 - frame_at program.routines program.job, (stack_place t).1)

abbrev pub below_range : Resolved → TaskPlaces → Extent
below_range program t = ((stack_place t).0, (stack_place t).1 - frame_at program.routines program.job)

-- of the code of function n: `job` has its frame, each other one a frame somewhere below it
abbrev pub stack_of : Resolved → TaskPlaces → ℕ → List Extent
stack_of program t n = (if n == program.job then frame_range program t else below_range program t) ∷ []

-- where nothing is known of functions
abbrev pub scene_of : Plant → List Plan → Resolved → TaskPlaces → Scene
scene_of p plans program t = record {
  plant = p;
  plans = plans;
  parts = parts_of p.target program.routines;
  marked = is_marked_at program.routines;
  stub = λ f. marked_before f program.routines;
  functions = length program.routines;
  places = λ part. (place_at t part).0;
  global = global_range t;
  stack = [];
  facts = [];
}

-- of a function whose code stands at a place
abbrev pub fact_at : Scene → Routine → (at : ℕ) → Fact
fact_at e f at = record {
  pieces = function_code e.parts f;
  code = code_ranges e at (function_span e f);
  touched = data_ranges e (function_span e f);
  cuts = has_cut e f.body;
  least = least_function e f at;
  parted = parted_function e f at;
}

-- function number n, where those before it are known
abbrev pub at_function : Scene → (stack : ℕ → List Extent) → List Fact → Scene
at_function e stack known = record e { stack = stack (length known); facts = known }

-- in the order of the text, behind those that are known
abbrev pub facts_behind : Scene → (stack : ℕ → List Extent) → List Fact → List Routine → List Fact
facts_behind e stack known [] = known
facts_behind e stack known (f ∷ fs) =
    facts_behind e stack (known ++ fact_at (at_function e stack known) f (e.places (code_part (length known))) ∷ []) fs

-- where all functions are known
abbrev pub known_scene : Plant → List Plan → Resolved → TaskPlaces → Scene
known_scene p plans program t =
    record (scene_of p plans program t) { facts = facts_behind (scene_of p plans program t) (stack_of program t) [] program.routines }

-- ---- a task

abbrev pub start_span : Resolved → Span
start_span program = record { pieces = start_code program.job; globals = []; callees = program.job ∷ [] }

-- the start at the rule's weights, and `job`
abbrev pub own_start : Scene → ℕ
own_start e = own_jump e + job_weight e.plant PmDone

abbrev pub job_of : Scene → Resolved → ℕ
job_of e program =
    if (fact_of e program.job).cuts then own_start e + (fact_of e program.job).parted.total
    else min (charge e (e.places start_part) (start_span program)) (own_start e + (fact_of e program.job).least)

-- one switch, the start and `job`
abbrev pub wcet_of : Plant → List Plan → Resolved → TaskPlaces → ℕ
wcet_of p plans program t = p.switch + job_of (known_scene p plans program t) program

abbrev pub stretch_within : Scene → Resolved → ℕ
stretch_within e program =
    if (fact_of e program.job).cuts then greatest (chained (taking (own_jump e)) (chained (fact_of e program.job).parted.sums (taking (job_weight e.plant PmDone))))
    else job_of e program

-- with the switch before it: a stretch, or the interval of a marked function, called or not
abbrev pub longest_wcet_of : Plant → List Plan → Resolved → TaskPlaces → ℕ
longest_wcet_of p plans program t = p.switch + max (stretch_within (known_scene p plans program t) program) (greatest_stated plans)
