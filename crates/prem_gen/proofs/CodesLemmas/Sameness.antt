-- The code that the generator makes by its table is that by the numbers of the program's parts.
use Rattle.std.specs.Prelude.{slice_get, nat_lt, if◌then◌else◌}
use Rattle.std.proofs.Common.{◌≡◌, ◌≤◌, ℕ, ◌+◌, Bool, true, false, List, length, Option, None, Some, refl, ap, ◌∙◌, sym, arith}
use Rattle.std.proofs.lemmas.Bool.{ltb-false}
use Rattle.prem_plant.specs.declared.plant.Target.{Target}
use Rattle.prem_plant.specs.declared.plant.Target.TheVariants.{Rv32i}
use Rattle.prem_syntax.specs.Resolved.{Steps, Done, SetLocal, SetScalar, SetElement, Output, Input, If, For, While, Call, Routine, Resolved}
use Rattle.prem_tree.specs.declared.resolve.resolved.Routine.{Routine as RoutineTree}
use Rattle.prem_tree.specs.Resolve.ResolvedOf.{routine_of, routines_of}
use Rattle.prem_asm.specs.Pieces.{straight, followed}
use Rattle.prem_layout.specs.Template.Terms.{only}
use Rattle.prem_layout.specs.Template.Frames.{frame_of, frame_at, frame_if_there, locals_of}
use Rattle.prem_layout.specs.Template.Limits.{frame, deep_excess, too_deep_function, excess_of, greatest_frame}
use Rattle.prem_layout.specs.Template.Steps.{Parts, opening, closing, declare_code, result_code, function_code}
use Rattle.prem_layout.specs.Template.Parts.{parts_of, global_part}
use Rattle.prem_gen.specs.Term.Numbers.{from_part}
use Rattle.prem_gen.specs.declared.routine.task.Callee.{Callee}
use Rattle.prem_gen.specs.Routine.Parts.{callee_at}
use Rattle.prem_gen.specs.Routine.RoutineCode.{RoutineSmall}
use Rattle.prem_gen.specs.Table.Table.{all_marks, callees_from}
use Rattle.prem_gen.specs.Table.Same.{SameCall, CallsSame, with_globals}
use Rattle.prem_gen.specs.Numbers.Steps.{EachCallee, FunctionSmall}
use Rattle.prem_gen.specs.Codes.Codes.{WellFormedAreSmall, FramesFit, CalleesAreAmongAll}
use Rattle.prem_gen.proofs.TableLemmas.Parts.{table_tells, stubs_are_counted}
use Rattle.prem_gen.proofs.TableLemmas.Calls.{code_is_by_calls}
use Rattle.prem_gen.proofs.NumbersLemmas.Resolving.{functions_are_small}
use Rattle.prem_gen.proofs.NumbersLemmas.StepTrees.{trees_are_small}

-- ---- callees

each_more : (P Q : ℕ → Type 0) → ((f : ℕ) → P f → Q f) → (s : Steps) → EachCallee P s → EachCallee Q s
each_more P Q more Done h = tt
each_more P Q more (SetLocal at k value rest) h = each_more P Q more rest h
each_more P Q more (SetScalar at g ty value rest) h = each_more P Q more rest h
each_more P Q more (SetElement at g ty index value rest) h = each_more P Q more rest h
each_more P Q more (Output at value rest) h = each_more P Q more rest h
each_more P Q more (Input at k rest) h = each_more P Q more rest h
each_more P Q more (If at condition taken other rest) h = (each_more P Q more taken h.0, (each_more P Q more other h.1.0, each_more P Q more rest h.1.1))
each_more P Q more (For at k low closed high step turns body rest) h = (each_more P Q more body h.0, each_more P Q more rest h.1)
each_more P Q more (While at turns condition body rest) h = (each_more P Q more body h.0, each_more P Q more rest h.1)
each_more P Q more (Call at target f arguments rest) h = (more f h.0, each_more P Q more rest h.1)

each_all : (P : ℕ → Type 0) → ((f : ℕ) → P f) → (s : Steps) → EachCallee P s
each_all P all Done = tt
each_all P all (SetLocal at k value rest) = each_all P all rest
each_all P all (SetScalar at g ty value rest) = each_all P all rest
each_all P all (SetElement at g ty index value rest) = each_all P all rest
each_all P all (Output at value rest) = each_all P all rest
each_all P all (Input at k rest) = each_all P all rest
each_all P all (If at condition taken other rest) = (each_all P all taken, (each_all P all other, each_all P all rest))
each_all P all (For at k low closed high step turns body rest) = (each_all P all body, each_all P all rest)
each_all P all (While at turns condition body rest) = (each_all P all body, each_all P all rest)
each_all P all (Call at target f arguments rest) = (all f, each_all P all rest)

calls_same : (p q : Parts) (s : Steps) → EachCallee (SameCall p q) s → CallsSame p q s
calls_same p q Done h = tt
calls_same p q (SetLocal at k value rest) h = calls_same p q rest h
calls_same p q (SetScalar at g ty value rest) h = calls_same p q rest h
calls_same p q (SetElement at g ty index value rest) h = calls_same p q rest h
calls_same p q (Output at value rest) h = calls_same p q rest h
calls_same p q (Input at k rest) h = calls_same p q rest h
calls_same p q (If at condition taken other rest) h = (calls_same p q taken h.0, (calls_same p q other h.1.0, calls_same p q rest h.1.1))
calls_same p q (For at k low closed high step turns body rest) h = (calls_same p q body h.0, calls_same p q rest h.1)
calls_same p q (While at turns condition body rest) h = (calls_same p q body h.0, calls_same p q rest h.1)
calls_same p q (Call at target f arguments rest) h = (h.0, calls_same p q rest h.1)

-- ---- the code of a function

-- what the generator knows, with this part for the first global and this table
abbrev pub parts_by : Target → ℕ → List Callee → Parts
parts_by target first table = record {
  target = target;
  global = from_part first;
  frame = λ f. (callee_at table f).frame;
  link = λ f. (callee_at table f).link;
  callee = λ f. (callee_at table f).part;
}

abbrev table_of : List RoutineTree → List Callee
table_of rs = callees_from (1 + length rs) 0 rs

function_same : (t : Target) (g : ℕ → ℕ) (p q : Parts) (f : Routine) → CallsSame (with_globals t g p) (with_globals t g q) f.body →
    function_code (with_globals t g p) f ≡ function_code (with_globals t g q) f
function_same t g p q f h =
    ap (λ body. straight (opening (frame_of f)) (followed (declare_code t g (length f.text.params) f.locals) (followed body (followed (result_code t g f.result) (only (closing (frame_of f)))))))
    (code_is_by_calls t g p q (locals_of f) f.body h)

pub code_same : (target : Target) (turns : ℕ → ℕ) (rs : List RoutineTree) (f : Routine) → EachCallee (λ c. frame_at (routines_of turns 0 rs) c ≤ greatest_frame) f.body →
    function_code (parts_by target (1 + length rs + all_marks rs) (table_of rs)) f ≡ function_code (parts_of target (routines_of turns 0 rs)) f
code_same target turns rs f h =
    let routines = routines_of turns 0 rs in
    let first = 1 + length rs + all_marks rs in
    let zeroth : first ≡ global_part routines 0 = stubs_are_counted turns 0 rs in
    let p = parts_by target first (table_of rs) in
    let q = parts_of target routines in
    let globals : from_part first ≡ global_part routines = λ k g. (let e : first + g ≡ global_part routines g = omega (arith, zeroth) in e) k in
    let told : (c : ℕ) → frame_at routines c ≤ greatest_frame → SameCall (with_globals target (from_part first) p) (with_globals target (from_part first) q) c =
    λ c fits. let t = table_tells target turns 0 rs c in record { frame_is = t.frame_is fits; link_is = t.link_is; callee_is = t.part_is } in
    function_same target (from_part first) p q f (calls_same (with_globals target (from_part first) p) (with_globals target (from_part first) q) f.body (each_more _ _ told f.body h))
    ∙ ap (λ g. function_code (with_globals target g q) f) globals

-- ---- what exceeds nothing

pub fits_where_none : (n : ℕ) (f : Routine) → excess_of n f ≡ None → frame_of f ≤ greatest_frame
fits_where_none n f e = by (nat_lt greatest_frame (frame_of f)) refl e where
  by : (b : Bool) → nat_lt greatest_frame (frame_of f) ≡ b → (if b then Some (frame n) else deep_excess (too_deep_function f)) ≡ None → frame_of f ≤ greatest_frame
  by true is h = cc
  by false is h = ltb-false greatest_frame (frame_of f) is

-- ---- small numbers

pub routine_small : (turns : ℕ → ℕ) (rs : List RoutineTree) (m n : ℕ) (r : RoutineTree) → FunctionSmall n (routine_of turns m r) →
    EachCallee (λ c. frame_at (routines_of turns 0 rs) c ≤ greatest_frame) (routine_of turns m r).body → RoutineSmall (table_of rs) r
routine_small turns rs m n r small h =
    trees_are_small (table_of rs) turns m n r small
    (each_more _ _ (λ c fits. let t = (table_tells Rv32i turns 0 rs c).frame_is fits in let f : frame_at (routines_of turns 0 rs) c ≤ greatest_frame =
    fits in omega (arith, t, f)) (routine_of turns m r).body h)

pub well_formed_are_small : WellFormedAreSmall
well_formed_are_small r p is formed turns n f there fits =
    functions_are_small p formed turns n f (ap (λ (q : Resolved). slice_get q.routines n) (sym (is.same turns)) ∙ there) fits

all_fit : (p : Resolved) → FramesFit p → (c : ℕ) → frame_at p.routines c ≤ greatest_frame
all_fit p fits c = by (slice_get p.routines c) refl where
  by : (o : Option Routine) → slice_get p.routines c ≡ o → frame_if_there o ≤ greatest_frame
  by None is = omega arith
  by (Some f) is = fits c f is

pub callees_are_among_all : CalleesAreAmongAll
callees_are_among_all p fits n f there own = each_all (λ c. frame_at p.routines c ≤ greatest_frame) (all_fit p fits) f.body
