-- The bills of statements in memory.
use Rattle.std.specs.Prelude.{◌≡◌, ◌<◌, ◌^◌, ◌==◌, ℕ, ◌+◌, Bool, List, [], ◌∷◌, ◌++◌, map, length, if◌then◌else◌, is_some, slice_get, get_or, take, Some}
use Rattle.prem_list.specs.Sequence.{items_of}
use Rattle.prem_asm.specs.Pieces.{Pieces, no_pieces, size_of}
use Rattle.prem_asm.specs.PiecesOf.{pieces_of}
use Rattle.prem_plant.specs.declared.plant.Plant.{Plant}
use Rattle.prem_layout.specs.Footprint.{TaskPlaces, place_at}
use Rattle.prem_layout.specs.Parts.{start_part, stub_part}
use Rattle.prem_tree.specs.declared.resolve.resolved.Routine.{Routine as RoutineTree}
use Rattle.prem_bounds.specs.TableOf.{listed}
use Rattle.prem_place.specs.Placed.PlacedOf.{routines_of}
use Rattle.prem_place.specs.declared.placed.PlacedTask.{PlacedTask}
use Rattle.prem_wcet.specs.declared.scene.Scene.{Scene as SceneTree}
use Rattle.prem_wcet.specs.declared.scene.Face.{Face}
use Rattle.prem_wcet.specs.declared.outline.Outline.{Outline as OutlineTree}
use Rattle.prem_wcet.specs.declared.scene.Fact.{Fact as FactTree}
use Rattle.prem_wcet_laws.specs.Scopes.{Scene, fact_of}
use Rattle.prem_wcet.specs.EdgesOf.{entry_of, leaving_of}
use Rattle.prem_wcet.specs.Functions.{function_span_in}
use Rattle.prem_wcet.specs.Outlines.{Outline, ended, plain, calling, choice, turning, code_of, first_place, inner_place, second_place}
use Rattle.prem_wcet.specs.JobTimes.{job_span}
use Rattle.prem_wcet.specs.KnownOf.{memory_scene, stack_by}
use Rattle.prem_wcet.specs.PartsOf.{IsOutline, parts_of}
use Rattle.prem_wcet.specs.SceneOf.{face_at}
use Rattle.prem_profile.specs.declared.bound.least.CallItems.{CallItems}
use Rattle.prem_profile.specs.Bound.Bills.{Bill, cheaper, gathered}
use Rattle.prem_profile.specs.Bound.Scopes.{own_bill, own_jump_item, scope_bill}
use Rattle.prem_profile.specs.Bound.Statements.{CallBill, call_at, called_bill, choice_bill, head_end, inner_end, least_bill, over_place, turns_bill}
use Rattle.prem_profile.specs.Bound.Passages.{Stubs, closed_bill, cut_bill, first_passage, parted_bill}
use Rattle.prem_profile.specs.Bound.Tasks.{start_bill}
use Rattle.prem_wcet_laws.specs.Parted.{no_edge}

abbrev pub call_of : CallItems → CallBill
call_of c = record { least = c.least.items; parted = c.parted.items }

abbrev pub calls_of : List CallItems → List CallBill
calls_of known = map call_of known

-- loops whose code lies below 2 ^ 32 at a place
abbrev pub EndsAt : (at : ℕ) → Outline → Type 0
EndsAt at ended = Unit {0}
EndsAt at (plain code names rest) = EndsAt (at + size_of code) rest
EndsAt at (calling code names arguments count callee landing rest) = EndsAt (at + size_of code) rest
EndsAt at (choice code names condition skips taken other rest) =
    EndsAt (first_place at condition) taken × (EndsAt (second_place at condition taken skips) other × EndsAt (at + size_of code) rest)
EndsAt at (turning code names first turns head before body behind rest) =
    (inner_end at first head before body + size_of behind < 2 ^ 32) × (EndsAt (inner_place at first head before) body × EndsAt (at + size_of code) rest)

-- the first statement by its parts
abbrev pub divided_bill : Scene → List CallBill → (at : ℕ) → Outline → Bill
divided_bill e known at ended = []
divided_bill e known at (plain code names rest) = own_bill e at code
divided_bill e known at (calling code names arguments count callee landing rest) =
    own_bill e at arguments ++ (own_jump_item e (at + size_of arguments) ∷ (called_bill e known callee ++ own_bill e (at + size_of arguments + 4) landing))
divided_bill e known at (choice code names condition skips taken other rest) =
    own_bill e at condition
    ++ choice_bill e (at + size_of condition) (over_place at condition taken) skips (least_bill e known (first_place at condition) taken)
    (least_bill e known (second_place at condition taken skips) other)
divided_bill e known at (turning code names first turns head before body behind rest) =
    own_bill e at first
    ++ turns_bill e (head_end at first head) (inner_end at first head before body + size_of behind) turns (own_bill e (at + size_of first) head)
    (own_bill e (head_end at first head + 8) before ++ (least_bill e known (inner_place at first head before) body ++ own_bill e (inner_end at first head before body) behind))

-- ---- statements with marked calls

-- statements that other code stands around, which is billed apart
abbrev pub alone_bill : Scene → Stubs → List CallBill → (at : ℕ) → Outline → Bill
alone_bill e stubs known at o = first_passage e known at no_edge no_edge o ++ closed_bill e stubs known no_edge at o

-- the first statement, where it has marked calls, between its edges
abbrev pub cut_part_bill : Scene → Stubs → List CallBill → (at : ℕ) → Outline → Bill
cut_part_bill e stubs known at ended = []
cut_part_bill e stubs known at (plain code names rest) = []
cut_part_bill e stubs known at (calling code names arguments count callee landing rest) = own_jump_item e (at + size_of arguments) ∷ cut_bill e stubs known callee
cut_part_bill e stubs known at (choice code names condition skips taken other rest) =
    own_bill e at condition
    ++ choice_bill e (at + size_of condition) (over_place at condition taken) skips (alone_bill e stubs known (first_place at condition) taken)
    (alone_bill e stubs known (second_place at condition taken skips) other)
cut_part_bill e stubs known at (turning code names first turns head before body behind rest) =
    own_bill e at first
    ++ turns_bill e (head_end at first head) (inner_end at first head before body + size_of behind) turns (own_bill e (at + size_of first) head)
    (own_bill e (head_end at first head + 8) before
    ++ (alone_bill e stubs known (inner_place at first head before) body ++ own_bill e (inner_end at first head before body) behind))

-- bills one behind another, from the last one to the first one
abbrev pub from_last : List Bill → Bill
from_last [] = []
from_last (b ∷ bills) = from_last bills ++ b

-- how many functions are marked, and how many of the first n
abbrev pub marked_in : List Face → ℕ
marked_in [] = 0
marked_in (x ∷ xs) = (if is_some x.stated then 1 else 0) + marked_in xs

abbrev pub marked_faces : List Face → ℕ → ℕ
marked_faces faces n = marked_in (take n faces)

-- in a scene in memory each function stands for a stub of its own
abbrev pub stubs_at : TaskPlaces → (functions : ℕ) → List Face → (task : ℕ) → Stubs
stubs_at t functions faces task = record { task = task; places = λ f. (place_at t (stub_part functions (marked_faces faces f))).0 }

abbrev pub stubs_in : SceneTree → (task : ℕ) → Stubs
stubs_in s task = stubs_at s.places.now (length s.code.now) s.faces.now task

-- ---- functions

-- by the outline of a function whose code is at a place
abbrev pub function_least_bill : Scene → List CallBill → (at : ℕ) → Pieces → OutlineTree → Bill
function_least_bill e known at code o =
    cheaper (scope_bill e at (function_span_in code o))
    (own_bill e at (pieces_of o.entry.now)
    ++ (least_bill e known (at + size_of (pieces_of o.entry.now)) (parts_of (items_of o.body))
    ++ own_bill e (at + size_of (pieces_of o.entry.now) + size_of (code_of (parts_of (items_of o.body)))) (pieces_of o.leaving.now)))

abbrev pub function_parted_bill : Scene → Stubs → List CallBill → (at : ℕ) → OutlineTree → Bill
function_parted_bill e stubs known at o = parted_bill e stubs known at (entry_of o) (leaving_of o) (parts_of (items_of o.body))

abbrev pub function_calls : Scene → Stubs → List CallBill → (at : ℕ) → Pieces → OutlineTree → CallBill
function_calls e stubs known at code o = record {
  least = gathered (function_least_bill e known at code o);
  parted = gathered (function_parted_bill e stubs known at o);
}

-- what a call of the function behind those that have these facts is billed, by the outline that is cut out of its code
pub record IsNextCall (p : Plant) (t : PlacedTask) (task : ℕ) (faces : List Face) (facts : List FactTree) (known : List CallBill) (call : CallItems) : Type 0 where
  pub routine : RoutineTree
  pub there : slice_get (routines_of t) (length facts) ≡ Some routine
  pub outline : OutlineTree
  pub cut : IsOutline p.target routine (get_or (listed (items_of t.table.code)) (length facts) no_pieces) outline
  pub told : call_of call ≡
      function_calls (memory_scene p t.places (items_of t.table.code) faces (stack_by t.places (face_at faces t.program.job).frame (length facts == t.program.job)) facts)
      (stubs_at t.places (length (items_of t.table.code)) faces task) known (place_at t.places (1 + length facts)).0
      (get_or (listed (items_of t.table.code)) (length facts) no_pieces) outline

-- ---- a job

-- the bill of a function, where no marked call is in it, or where one is
abbrev pub known_items : List CallBill → (f : ℕ) → (cuts : Bool) → Bill
known_items known f cuts = if cuts then (call_at known f).parted else (call_at known f).least

-- the start and `job`
abbrev pub job_items : Scene → List CallBill → (job : ℕ) → Bill
job_items e known job =
    if (fact_of e job).cuts then start_bill e ++ known_items known job (fact_of e job).cuts
    else cheaper (scope_bill e (e.places start_part) (job_span job)) (start_bill e ++ known_items known job (fact_of e job).cuts)
