-- Scopes: code that runs within one compatible interval, with the collection of the lines that it may touch, and its charge.
use Rattle.std.specs.Prelude.{ℕ, ◌+◌, ◌*◌, ◌/◌, ◌%◌, nat_le, Bool, true, Option, None, Some, if◌then◌else◌, List, [], ◌∷◌, ◌++◌, length, map, filter, slice_index_or}
use Rattle.prem_wcet_laws.specs.Prelude.{Pieces, no_pieces, size_of, cost_of, Load, Store, line_cost, part_weight, weight_at, lines_of, count_in, code_part, Plan, Parts, steps_code}
use Rattle.prem_wcet_laws.specs.Prelude.{function_code, Extent, Plant, callees_in, Term, Constant, Local, Scalar, Element, Unary, Binary, AndAlso, OrElse, Steps, Done, SetLocal, SetScalar}
use Rattle.prem_wcet_laws.specs.Prelude.{SetElement, Output, Input, If, For, While, Call, Routine, list_all, flat_map}
use Rattle.prem_wcet_laws.specs.Counts.{PathCount, no_count}
use Rattle.prem_wcet_laws.specs.Weights.{PlaceWeight, weighted_from}

-- ---- lines of a collection

-- the set of a line has room for all lines of the collection that go into it
abbrev pub is_roomy : Plant → List ℕ → ℕ → Bool
is_roomy p lines n = nat_le (count_in p.sets lines (n % p.sets)) p.«ways»

-- the lines whose sets have room
abbrev pub roomy_lines : Plant → List ℕ → List ℕ
roomy_lines p lines = filter (is_roomy p lines) lines

-- a touch of a line whose set has no room may miss each time
abbrev pub crowd_cost : Plant → Bool → ℕ
crowd_cost p roomy = if roomy then 0 else line_cost p

-- an instruction at a place, where the lines of the data have room or haven't
abbrev pub scope_weight : Plant → (lines : List ℕ) → (data_roomy : Bool) → PlaceWeight
scope_weight p lines data_roomy at (Load op rd rs1 offset) = cost_of (Load op rd rs1 offset) + crowd_cost p (is_roomy p lines (at / p.line)) + crowd_cost p data_roomy
scope_weight p lines data_roomy at (Store op rs1 rs2 offset) = cost_of (Store op rs1 rs2 offset) + crowd_cost p (is_roomy p lines (at / p.line)) + crowd_cost p data_roomy
scope_weight p lines data_roomy at i = cost_of i + crowd_cost p (is_roomy p lines (at / p.line))

-- ---- code with what it names

-- the globals that code names, and the functions that it calls
pub record Span : Type 0 where
  pub pieces : Pieces
  pub globals : List ℕ
  pub callees : List ℕ

abbrev pub globals_in_term : Term → List ℕ
globals_in_term (Constant at word kind) = []
globals_in_term (Local at number kind) = []
globals_in_term (Scalar at global ty) = global ∷ []
globals_in_term (Element at global ty index) = global ∷ globals_in_term index
globals_in_term (Unary at op operand) = globals_in_term operand
globals_in_term (Binary at op kind left right) = globals_in_term left ++ globals_in_term right
globals_in_term (AndAlso at left right) = globals_in_term left ++ globals_in_term right
globals_in_term (OrElse at left right) = globals_in_term left ++ globals_in_term right

abbrev pub globals_in_terms : List Term → List ℕ
globals_in_terms [] = []
globals_in_terms (e ∷ es) = globals_in_term e ++ globals_in_terms es

abbrev pub globals_in : Steps → List ℕ
globals_in Done = []
globals_in (SetLocal at number value rest) = globals_in_term value ++ globals_in rest
globals_in (SetScalar at global ty value rest) = global ∷ globals_in_term value ++ globals_in rest
globals_in (SetElement at global ty index value rest) = global ∷ (globals_in_term index ++ globals_in_term value) ++ globals_in rest
globals_in (Output at value rest) = globals_in_term value ++ globals_in rest
globals_in (Input at number rest) = globals_in rest
globals_in (If at condition taken other rest) = globals_in_term condition ++ (globals_in taken ++ (globals_in other ++ globals_in rest))
globals_in (For at number low closed high step turns body rest) = (globals_in_term low ++ globals_in_term high) ++ (globals_in body ++ globals_in rest)
globals_in (While at turns condition body rest) = globals_in_term condition ++ (globals_in body ++ globals_in rest)
globals_in (Call at target callee arguments rest) = globals_in_terms arguments ++ globals_in rest

-- ---- what is known of a task

-- What is known of a function whose calls are no marked ones: its code; the bytes of the code that a call of it runs, and those of the globals and
-- of the stack that it may touch; whether a marked call is in it; and what a call of it counts.
pub record Fact : Type 0 where
  pub pieces : Pieces
  pub code : List Extent
  pub touched : List Extent
  pub cuts : Bool
  pub least : ℕ  -- where no marked call is in it
  pub parted : PathCount  -- where one is

-- a function that isn't known: it can't be called
abbrev pub no_fact : Fact
no_fact = record { pieces = no_pieces; code = []; touched = []; cuts = true; least = 0; parted = no_count }

-- a task whose parts stand somewhere, at the code of a function
pub record Scene : Type 0 where
  pub plant : Plant
  pub plans : List Plan
  pub parts : Parts
  pub marked : ℕ → Bool
  pub stub : ℕ → ℕ  -- the number of a marked function among them
  pub functions : ℕ  -- how many there are
  pub places : ℕ → ℕ  -- where each part stands
  pub global : ℕ → Extent  -- the bytes of each global
  pub stack : List Extent  -- those of the stack that the function's own code may touch
  pub facts : List Fact  -- of the functions before it

abbrev pub fact_of : Scene → ℕ → Fact
fact_of e f = slice_index_or e.facts f no_fact

abbrev pub extent_of : (at : ℕ) → Pieces → Extent
extent_of at ps = (at, at + size_of ps)

-- the bytes of the code that a span at a place runs
abbrev pub code_ranges : Scene → (at : ℕ) → Span → List Extent
code_ranges e at s = extent_of at s.pieces ∷ flat_map (λ f. (fact_of e f).code) s.callees

-- those of the stack, of the globals that it names, whole, and what its callees touch
abbrev pub data_ranges : Scene → Span → List Extent
data_ranges e s = e.stack ++ (map e.global s.globals ++ flat_map (λ f. (fact_of e f).touched) s.callees)

abbrev pub data_lines : Scene → Span → List ℕ
data_lines e s = lines_of e.plant.line (data_ranges e s)

-- its collection
abbrev pub lines_in : Scene → (at : ℕ) → Span → List ℕ
lines_in e at s = lines_of e.plant.line (code_ranges e at s ++ data_ranges e s)

-- ---- its charge

-- the weights of functions in the order of the text, behind those that are known
abbrev pub places_behind : PlaceWeight → (functions : ℕ) → (places : ℕ → ℕ) → List ℕ → List Fact → List ℕ
places_behind w functions places known [] = known
places_behind w functions places known (f ∷ fs) =
    places_behind w functions places (known ++ weighted_from w (part_weight functions (weight_at known) (λ k. 0)) (places (code_part (length known))) f.pieces ∷ []) fs

-- the greatest weight over its paths
abbrev pub path_weight : Scene → PlaceWeight → (at : ℕ) → Span → ℕ
path_weight e w at s = weighted_from w (part_weight e.functions (weight_at (places_behind w e.functions e.places [] e.facts)) (λ k. 0)) at s.pieces

-- with these lines, of which these are the data's
abbrev pub charge_with : Scene → (at : ℕ) → Span → (lines held : List ℕ) → ℕ
charge_with e at s lines held =
    length (roomy_lines e.plant lines) * line_cost e.plant + path_weight e (scope_weight e.plant lines (list_all (is_roomy e.plant lines) held)) at s

-- as one scope
abbrev pub charge : Scene → (at : ℕ) → Span → ℕ
charge e at s = charge_with e at s (lines_in e at s) (data_lines e s)

-- ---- statements, and functions

-- statements whose counters are the slots from n on
abbrev pub span_of : Scene → (n : ℕ) → Steps → Span
span_of e n steps = record { pieces = steps_code e.parts n steps; globals = globals_in steps; callees = callees_in steps }

abbrev pub globals_in_result : Option Term → List ℕ
globals_in_result None = []
globals_in_result (Some e) = globals_in_term e

abbrev pub function_span : Scene → Routine → Span
function_span e f = record {
  pieces = function_code e.parts f;
  globals = globals_in_terms f.locals ++ (globals_in f.body ++ globals_in_result f.result);
  callees = callees_in f.body;
}
