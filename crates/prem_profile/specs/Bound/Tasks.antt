-- The bill of a job: one switch, the start, and `job` with all that it calls.
use Rattle.std.specs.Prelude.{ℕ, ◌+◌, if◌then◌else◌, List, [], ◌∷◌, ◌++◌, length}
use Rattle.prem_plant.specs.declared.plant.Plant.{Plant}
use Rattle.prem_plant.specs.Places.{Extent}
use Rattle.prem_isa.specs.declared.instr.Instr.TheVariants.{PmDone}
use Rattle.prem_syntax.specs.Resolved.{Routine, Resolved}
use Rattle.prem_asm.specs.Pieces.{size_of}
use Rattle.prem_layout.specs.Template.Frames.{locals_of}
use Rattle.prem_layout.specs.Template.Steps.{steps_code}
use Rattle.prem_layout.specs.Plans.{Plan}
use Rattle.prem_layout.specs.Parts.{code_part, start_part, stub_part}
use Rattle.prem_layout.specs.Footprint.{TaskPlaces, place_at}
use Rattle.prem_wcet_laws.specs.Scopes.{Fact, Scene, fact_of, function_span}
use Rattle.prem_wcet_laws.specs.Parted.{entry, leaving}
use Rattle.prem_wcet_laws.specs.Wcet.{at_function, fact_at, known_scene, scene_of, stack_of, start_span}
use Rattle.prem_wcet.specs.Outlined.{outline_of}
use Rattle.prem_profile.specs.Bound.Bills.{Bill, cheaper, gathered}
use Rattle.prem_profile.specs.Bound.Pieces.{item}
use Rattle.prem_profile.specs.Bound.Scopes.{own_bill, own_jump_item, rule_cost, scope_bill}
use Rattle.prem_profile.specs.Bound.Statements.{CallBill, call_at, least_bill}
use Rattle.prem_profile.specs.Bound.Passages.{Stubs, parted_bill, switch_item}

-- ---- functions

-- where the statements of a function begin whose code is at a place, and where they end
abbrev pub body_begin : Scene → Routine → (at : ℕ) → ℕ
body_begin e f at = at + size_of (entry e f).pieces

abbrev pub body_end : Scene → Routine → (at : ℕ) → ℕ
body_end e f at = body_begin e f at + size_of (steps_code e.parts (locals_of f) f.body)

-- a call of a function whose code is at a place, behind its jump, which has one item for each spot
abbrev pub function_bill : Scene → Stubs → List CallBill → Routine → (at : ℕ) → CallBill
function_bill e stubs known f at = record {
  least = gathered (cheaper (scope_bill e at (function_span e f))
      (own_bill e at (entry e f).pieces
      ++ (least_bill e known (body_begin e f at) (outline_of e (locals_of f) f.body) ++ own_bill e (body_end e f at) (leaving e f).pieces)));
  parted = gathered (parted_bill e stubs known at (entry e f) (leaving e f) (outline_of e (locals_of f) f.body));
}

-- in the order of the text, behind those that are known with these facts
abbrev pub bills_of : Scene → Stubs → (stack : ℕ → List Extent) → List Fact → List CallBill → List Routine → List CallBill
bills_of e stubs stack facts known [] = known
bills_of e stubs stack facts known (f ∷ fs) =
    bills_of e stubs stack (facts ++ fact_at (at_function e stack facts) f (e.places (code_part (length facts))) ∷ [])
    (known ++ function_bill (at_function e stack facts) stubs known f (e.places (code_part (length facts))) ∷ []) fs

-- ---- a task

-- the start by the rule
abbrev pub start_bill : Scene → Bill
start_bill e = own_jump_item e (e.places start_part) ∷ item (rule_cost e.plant) (e.places start_part + 4) PmDone ∷ []

abbrev pub job_bill : Scene → List CallBill → Resolved → Bill
job_bill e known program =
    if (fact_of e program.job).cuts then start_bill e ++ (call_at known program.job).parted
    else cheaper (scope_bill e (e.places start_part) (start_span program)) (start_bill e ++ (call_at known program.job).least)

-- of a task that has such a number
abbrev pub stubs_of : (task : ℕ) → TaskPlaces → Stubs
stubs_of task t = record { task = task; places = λ k. (place_at t (stub_part t.functions k)).0 }

abbrev pub task_bill : Plant → List Plan → (task : ℕ) → Resolved → TaskPlaces → Bill
task_bill p plans task program t =
    switch_item p task
    ∷ job_bill (known_scene p plans program t) (bills_of (scene_of p plans program t) (stubs_of task t) (stack_of program t) [] [] program.routines) program
