-- Code, frames, plans and parts don't look at places.
use Rattle.std.specs.Prelude.{◌*◌, ◌==◌, max, pos, slice_get, if◌then◌else◌}
use Rattle.std.specs.Int.{next_multiple_of}
use Rattle.std.specs.Option.{option_map}
use Rattle.std.proofs.Common.{◌≡◌, ℕ, zero, suc, ◌+◌, List, [], ◌∷◌, ◌++◌, length, map, refl, ap, ◌∙◌, Option, None, Some}
use Rattle.std.proofs.lemmas.List.{length-map}
use Rattle.prem_plant.specs.declared.plant.Target.{Target}
use Rattle.prem_plant.specs.declared.layout.PartKind.TheVariants.{Start, Stack}
use Rattle.prem_isa.specs.declared.instr.Instr.TheVariants.{OpImm, PmIn, PmOut}
use Rattle.prem_isa.specs.declared.instr.AluOp.TheVariants.{Add}
use Rattle.prem_syntax.specs.Syntax.{RegionText, MarkText, GlobalVariable}
use Rattle.prem_syntax.specs.Resolved.{Term, Constant, Local, Scalar, Element, Unary, Binary, AndAlso, OrElse, Steps, Done, SetLocal, SetScalar, SetElement, Output, Input, If, For}
use Rattle.prem_syntax.specs.Resolved.{While, Call, Routine, Resolved}
use Rattle.prem_syntax.specs.Resolve.{find_global}
use Rattle.prem_syntax.specs.Reach.{callees_in, callee_table, reach_of}
use Rattle.prem_asm.specs.Pieces.{no_pieces, straight, either, repeat, call_to, followed}
use Rattle.prem_layout.specs.Template.Terms.{only, constant, nonzero, unary_code, binary_code, truth_code, element_code, term_code}
use Rattle.prem_layout.specs.Template.Frames.{counters_in, frame_of, frame_at, deepest, depth_if_there, depth_below, depth_of, deepest_marked, deepest_called, stack_size}
use Rattle.prem_layout.specs.Template.Steps.{Parts, store_slot, load_slot, scalar_store, element_store, bound_test, step_code, count_code, store_argument, argument_code}
use Rattle.prem_layout.specs.Template.Steps.{target_code, steps_code, opening, closing, declare_code, result_code, function_code}
use Rattle.prem_layout.specs.Template.Parts.{marked_count, marked_before, is_marked_at, code_part, stub_part, parts_of, codes_of}
use Rattle.prem_layout.specs.Plans.{Plan, number_or, region_of, plan_of, plan_before, plans_from, plans_of}
use Rattle.prem_layout.specs.Parts.{Passes, part, stub_parts, start_size, code_parts, global_parts, task_parts, part_count}
use Rattle.prem_text.specs.Canonical.Unplaced.{unplaced_region, unplaced_mark, unplaced_parameter, unplaced_global}
use Rattle.prem_annotate_answer.specs.Unplaced.{unplaced_term, unplaced_steps, unplaced_routine, unplaced_routines, unplaced_resolved}
use Rattle.prem_annotate_answer.proofs.UnplacedNames.{globals_found}
use Rattle.prem_annotate_answer.proofs.UnplacedRuns.{marked_same}

-- ---- code

term_same : (target : Target) (parts : ℕ → ℕ) (r : ℕ) (e : Term) → term_code target parts r (unplaced_term e) ≡ term_code target parts r e
term_same target parts r (Constant at word kind) = refl
term_same target parts r (Local at number kind) = refl
term_same target parts r (Scalar at global ty) = refl
term_same target parts r (Element at global ty index) = ap (λ x. followed x (element_code (parts global) ty r)) (term_same target parts r index)
term_same target parts r (Unary at op operand) = ap (λ x. followed x (only (unary_code op r))) (term_same target parts r operand)
term_same target parts r (Binary at op kind left right) =
    λ i. followed (term_same target parts r left i) (followed (term_same target parts (r + 1) right i) (binary_code target op kind r (r + 1)))
term_same target parts r (AndAlso at left right) =
    λ i. followed (term_same target parts r left i) (either (nonzero r) (followed (term_same target parts r right i) (only (truth_code r))) no_pieces no_pieces)
term_same target parts r (OrElse at left right) =
    λ i. followed (term_same target parts r left i) (either (nonzero r) (only (OpImm Add r 0 (pos 1) ∷ [])) (followed (term_same target parts r right i) (only (truth_code r))) no_pieces)

counters_same : (b : Steps) → counters_in (unplaced_steps b) ≡ counters_in b
counters_same Done = refl
counters_same (SetLocal at number value rest) = counters_same rest
counters_same (SetScalar at global ty value rest) = counters_same rest
counters_same (SetElement at global ty index value rest) = counters_same rest
counters_same (Output at value rest) = counters_same rest
counters_same (Input at number rest) = counters_same rest
counters_same (If at condition taken other rest) = λ i. counters_same taken i + counters_same other i + counters_same rest i
counters_same (For at number low closed high step turns body rest) = λ i. counters_same body i + counters_same rest i
counters_same (While at turns condition body rest) = λ i. 1 + counters_same body i + counters_same rest i
counters_same (Call at target callee arguments rest) = counters_same rest

argument_same : (target : Target) (parts : ℕ → ℕ) (frame j : ℕ) (es : List Term) → argument_code target parts frame j (map unplaced_term es) ≡ argument_code target parts frame j es
argument_same target parts frame j [] = refl
argument_same target parts frame j (e ∷ es) =
    λ i. followed (term_same target parts 10 e i) (straight (store_argument frame j ∷ []) (argument_same target parts frame (j + 1) es i))

steps_same : (parts : Parts) (n : ℕ) (b : Steps) → steps_code parts n (unplaced_steps b) ≡ steps_code parts n b
steps_same parts n Done = refl
steps_same parts n (SetLocal at k value rest) =
    λ i. followed (term_same parts.target parts.global 10 value i) (straight (store_slot k ∷ []) (steps_same parts n rest i))
steps_same parts n (SetScalar at g ty value rest) =
    λ i. followed (term_same parts.target parts.global 10 value i) (scalar_store (parts.global g) ty (steps_same parts n rest i))
steps_same parts n (SetElement at g ty index value rest) =
    λ i. followed (term_same parts.target parts.global 10 value i) (followed (term_same parts.target parts.global 11 index i) (element_store (parts.global g) ty (steps_same parts n rest i)))
steps_same parts n (Output at value rest) =
    λ i. followed (term_same parts.target parts.global 10 value i) (straight (PmOut 10 ∷ []) (steps_same parts n rest i))
steps_same parts n (Input at k rest) = ap (straight (PmIn 10 ∷ store_slot k ∷ [])) (steps_same parts n rest)
steps_same parts n (If at condition taken other rest) =
    let two = ap (λ m. steps_code parts (n + m) (unplaced_steps other)) (counters_same taken) ∙ steps_same parts (n + counters_in taken) other in
    let three : steps_code parts (n + counters_in (unplaced_steps taken) + counters_in (unplaced_steps other)) (unplaced_steps rest)
    ≡ steps_code parts (n + counters_in taken + counters_in other) rest =
    (λ i. steps_code parts (n + counters_same taken i + counters_same other i) (unplaced_steps rest)) ∙ steps_same parts (n + counters_in taken + counters_in other) rest in
    λ i. followed (term_same parts.target parts.global 10 condition i) (either (nonzero 10) (steps_same parts n taken i) (two i) (three i))
steps_same parts n (For at k low closed high step turns body rest) =
    let two = ap (λ m. steps_code parts (n + m) (unplaced_steps rest)) (counters_same body) ∙ steps_same parts (n + counters_in body) rest in
    λ i. followed (term_same parts.target parts.global 10 low i) (straight (store_slot k ∷ [])
    (repeat turns (straight (load_slot k ∷ []) (term_same parts.target parts.global 11 high i)) (bound_test closed)
    (followed (steps_same parts n body i) (only (step_code k step)))
    (two i)))
steps_same parts n (While at turns condition body rest) =
    let two = ap (λ m. steps_code parts (n + 1 + m) (unplaced_steps rest)) (counters_same body) ∙ steps_same parts (n + 1 + counters_in body) rest in
    λ i. straight (constant 10 turns) (straight (store_slot n ∷ [])
    (repeat turns (straight (load_slot n ∷ []) (either (nonzero 10) (followed (term_same parts.target parts.global 10 condition i) (only (truth_code 10))) no_pieces no_pieces)) (nonzero 10)
    (straight (count_code n) (steps_same parts (n + 1) body i))
    (two i)))
steps_same parts n (Call at target f arguments rest) =
    λ i. followed (argument_same parts.target parts.global (parts.frame f) 0 arguments i)
    (call_to (parts.link f) (parts.callee f) (target_code target (steps_same parts n rest i)))

declare_same : (target : Target) (parts : ℕ → ℕ) (k : ℕ) (es : List Term) → declare_code target parts k (map unplaced_term es) ≡ declare_code target parts k es
declare_same target parts k [] = refl
declare_same target parts k (e ∷ es) = λ i. followed (term_same target parts 10 e i) (straight (store_slot k ∷ []) (declare_same target parts (k + 1) es i))

result_same : (target : Target) (parts : ℕ → ℕ) (e : Option Term) → result_code target parts (option_map unplaced_term e) ≡ result_code target parts e
result_same target parts None = refl
result_same target parts (Some e) = term_same target parts 10 e

params_same : (f : Routine) → length (map unplaced_parameter f.text.params) ≡ length f.text.params
params_same f = length-map f.text.params unplaced_parameter

locals_same : (f : Routine) → length (map unplaced_term f.locals) ≡ length f.locals
locals_same f = length-map f.locals unplaced_term

frame_same : (f : Routine) → frame_of (unplaced_routine f) ≡ frame_of f
frame_same f = λ i. next_multiple_of (4 + 4 * (params_same f i + locals_same f i + counters_same f.body i)) 16

code_same : (parts : Parts) (f : Routine) → function_code parts (unplaced_routine f) ≡ function_code parts f
code_same parts f =
    let declared = ap (λ k. declare_code parts.target parts.global k (map unplaced_term f.locals)) (params_same f) ∙ declare_same parts.target parts.global (length f.text.params) f.locals in
    let steps : steps_code parts (length (map unplaced_parameter f.text.params) + length (map unplaced_term f.locals)) (unplaced_steps f.body)
    ≡ steps_code parts (length f.text.params + length f.locals) f.body =
    (λ i. steps_code parts (params_same f i + locals_same f i) (unplaced_steps f.body)) ∙ steps_same parts (length f.text.params + length f.locals) f.body in
    λ i. straight (opening (frame_same f i)) (followed (declared i) (followed (steps i) (followed (result_same parts.target parts.global f.result i) (only (closing (frame_same f i))))))

-- ---- frames and depths

pub length_same : (fs : List Routine) → length (unplaced_routines fs) ≡ length fs
length_same fs = length-map fs unplaced_routine

frame_there : (fs : List Routine) (n : ℕ) → frame_at (unplaced_routines fs) n ≡ frame_at fs n
frame_there [] n = refl
frame_there (f ∷ fs) zero = frame_same f
frame_there (f ∷ fs) (suc n) = frame_there fs n

deepest_same : (d : ℕ → ℕ) (b : Steps) → deepest d (unplaced_steps b) ≡ deepest d b
deepest_same d Done = refl
deepest_same d (SetLocal at number value rest) = deepest_same d rest
deepest_same d (SetScalar at global ty value rest) = deepest_same d rest
deepest_same d (SetElement at global ty index value rest) = deepest_same d rest
deepest_same d (Output at value rest) = deepest_same d rest
deepest_same d (Input at number rest) = deepest_same d rest
deepest_same d (If at condition taken other rest) = λ i. max (max (deepest_same d taken i) (deepest_same d other i)) (deepest_same d rest i)
deepest_same d (For at number low closed high step turns body rest) = λ i. max (deepest_same d body i) (deepest_same d rest i)
deepest_same d (While at turns condition body rest) = λ i. max (deepest_same d body i) (deepest_same d rest i)
deepest_same d (Call at target callee arguments rest) = ap (max (d callee)) (deepest_same d rest)

depth_there : (d : ℕ → ℕ) (fs : List Routine) (n : ℕ) → depth_if_there d (slice_get (unplaced_routines fs) n) ≡ depth_if_there d (slice_get fs n)
depth_there d [] n = refl
depth_there d (f ∷ fs) zero = λ i. frame_same f i + deepest_same d f.body i
depth_there d (f ∷ fs) (suc n) = depth_there d fs n

below_same : (fs : List Routine) (n : ℕ) → depth_below (unplaced_routines fs) n ≡ depth_below fs n
below_same fs zero = refl
below_same fs (suc n) =
    let below = below_same fs n in
    let here : depth_if_there (depth_below (unplaced_routines fs) n) (slice_get (unplaced_routines fs) n) ≡ depth_if_there (depth_below fs n) (slice_get fs n) =
    ap (λ d. depth_if_there d (slice_get (unplaced_routines fs) n)) below ∙ depth_there (depth_below fs n) fs n in
    λ i f. if f == n then here i else below i f

depth_same : (fs : List Routine) → depth_of (unplaced_routines fs) ≡ depth_of fs
depth_same fs = ap (λ n. depth_below (unplaced_routines fs) n) (length_same fs) ∙ below_same fs (length fs)

called_there : (d : ℕ → ℕ) (fs : List Routine) (n : ℕ) → deepest_called d (slice_get (unplaced_routines fs) n) ≡ deepest_called d (slice_get fs n)
called_there d [] n = refl
called_there d (f ∷ fs) zero = deepest_same d f.body
called_there d (f ∷ fs) (suc n) = called_there d fs n

marks_same : (d : ℕ → ℕ) (n : ℕ) (fs : List Routine) → deepest_marked d n (unplaced_routines fs) ≡ deepest_marked d n fs
marks_same d n [] = refl
marks_same d n (f ∷ fs) = λ i. max (if marked_same f i then d n else 0) (marks_same d (n + 1) fs i)

pub stack_same : (p : Resolved) → stack_size (unplaced_resolved p) ≡ stack_size p
stack_same p =
    let fs = p.routines in
    let depths = depth_same fs in
    (λ i. frame_there fs p.job i + max (deepest_called (depths i) (slice_get (unplaced_routines fs) p.job)) (deepest_marked (depths i) 0 (unplaced_routines fs)))
    ∙ (λ i. frame_at fs p.job + max (called_there (depth_of fs) fs p.job i) (marks_same (depth_of fs) 0 fs i))

-- ---- the code of a task

count_same : (fs : List Routine) → marked_count (unplaced_routines fs) ≡ marked_count fs
count_same [] = refl
count_same (f ∷ fs) = λ i. (if marked_same f i then 1 else 0) + count_same fs i

before_same : (n : ℕ) (fs : List Routine) → marked_before n (unplaced_routines fs) ≡ marked_before n fs
before_same zero fs = refl
before_same (suc n) [] = refl
before_same (suc n) (f ∷ fs) = λ i. (if marked_same f i then 1 else 0) + before_same n fs i

marked_there : (fs : List Routine) (n : ℕ) → is_marked_at (unplaced_routines fs) n ≡ is_marked_at fs n
marked_there [] n = refl
marked_there (f ∷ fs) zero = marked_same f
marked_there (f ∷ fs) (suc n) = marked_there fs n

stub_same : (fs : List Routine) (n : ℕ) → stub_part (unplaced_routines fs) n ≡ stub_part fs n
stub_same fs n = λ i. 1 + length_same fs i + before_same n fs i

parts_same : (target : Target) (fs : List Routine) → parts_of target (unplaced_routines fs) ≡ parts_of target fs
parts_same target fs = λ i. record {
  target = target;
  global = λ g. 1 + length_same fs i + count_same fs i + g;
  frame = λ n. frame_there fs n i;
  link = λ n. if marked_there fs n i then 4 else 1;
  callee = λ n. if marked_there fs n i then stub_same fs n i else code_part n;
}

codes_by : (parts : Parts) (fs : List Routine) → codes_of parts (unplaced_routines fs) ≡ codes_of parts fs
codes_by parts [] = refl
codes_by parts (f ∷ fs) = λ i. code_same parts f i ∷ codes_by parts fs i

pub codes_same : (target : Target) (fs : List Routine) → codes_of (parts_of target (unplaced_routines fs)) (unplaced_routines fs) ≡ codes_of (parts_of target fs) fs
codes_same target fs = ap (λ parts. codes_of parts (unplaced_routines fs)) (parts_same target fs) ∙ codes_by (parts_of target fs) fs

-- ---- plans

callees_same : (b : Steps) → callees_in (unplaced_steps b) ≡ callees_in b
callees_same Done = refl
callees_same (SetLocal at number value rest) = callees_same rest
callees_same (SetScalar at global ty value rest) = callees_same rest
callees_same (SetElement at global ty index value rest) = callees_same rest
callees_same (Output at value rest) = callees_same rest
callees_same (Input at number rest) = callees_same rest
callees_same (If at condition taken other rest) = λ i. callees_same taken i ++ (callees_same other i ++ callees_same rest i)
callees_same (For at number low closed high step turns body rest) = λ i. callees_same body i ++ callees_same rest i
callees_same (While at turns condition body rest) = λ i. callees_same body i ++ callees_same rest i
callees_same (Call at target callee arguments rest) = ap (λ l. callee ∷ l) (callees_same rest)

pub table_same : (fs : List Routine) → callee_table (unplaced_routines fs) ≡ callee_table fs
table_same [] = refl
table_same (f ∷ fs) = λ i. callees_same f.body i ∷ table_same fs i

number_same : (o : Option (ℕ × GlobalVariable)) → number_or 0 (option_map (λ (g : ℕ × GlobalVariable). (g.0, unplaced_global g.1)) o) ≡ number_or 0 o
number_same None = refl
number_same (Some g) = refl

region_same : (gs : List GlobalVariable) (r : RegionText) → region_of (map unplaced_global gs) (unplaced_region r) ≡ region_of gs r
region_same gs r =
    let number = ap (number_or 0) (globals_found r.name 0 gs) ∙ number_same (find_global (record { locals = []; globals = gs; functions = [] }) r.name) in
    λ i. (number i, r.low, r.high)

regions_same : (gs : List GlobalVariable) (rs : List RegionText) → map (region_of (map unplaced_global gs)) (map unplaced_region rs) ≡ map (region_of gs) rs
regions_same gs [] = refl
regions_same gs (r ∷ rs) = λ i. region_same gs r i ∷ regions_same gs rs i

plan_same : (p : Resolved) (n : ℕ) (m : MarkText) → plan_of (unplaced_resolved p) n (unplaced_mark m) ≡ plan_of p n m
plan_same p n m = λ i. record {
  function = n;
  reach = reach_of (table_same p.routines i) n;
  depth = depth_same p.routines i n;
  base = frame_there p.routines p.job i;
  regions = regions_same p.globals m.regions i;
  stated = m.stated;
}

before_plan : (p : Resolved) (n : ℕ) (m : Option MarkText) (rest rest' : List Plan) → rest ≡ rest' → plan_before (unplaced_resolved p) n (option_map unplaced_mark m) rest ≡ plan_before p n m rest'
before_plan p n None rest rest' e = e
before_plan p n (Some m) rest rest' e = λ i. plan_same p n m i ∷ e i

plans_from_same : (p : Resolved) (n : ℕ) (fs : List Routine) → plans_from (unplaced_resolved p) n (unplaced_routines fs) ≡ plans_from p n fs
plans_from_same p n [] = refl
plans_from_same p n (f ∷ fs) = before_plan p n f.text.mark _ _ (plans_from_same p (n + 1) fs)

pub plans_same : (p : Resolved) → plans_of (unplaced_resolved p) ≡ plans_of p
plans_same p = plans_from_same p 0 p.routines

-- ---- parts

globals_same : (task n : ℕ) (gs : List GlobalVariable) → global_parts task n (map unplaced_global gs) ≡ global_parts task n gs
globals_same task n [] = refl
globals_same task n (g ∷ gs) = ap (λ l. global_parts task n (g ∷ []) ++ l) (globals_same task (n + 1) gs)

pub task_parts_same : (passes : Passes) (task : ℕ) (sizes : List ℕ) (p : Resolved) → task_parts passes task sizes (unplaced_resolved p) ≡ task_parts passes task sizes p
task_parts_same passes task sizes p =
    λ i. part task Start start_size 4 ∷ (code_parts task 0 sizes ++ (stub_parts passes task (plans_same p i) ++ (globals_same task 0 p.globals i ++ (part task Stack (stack_same p i) 16 ∷ []))))

pub part_count_same : (p : Resolved) → part_count (unplaced_resolved p) ≡ part_count p
part_count_same p = λ i. 2 + length_same p.routines i + length (plans_same p i) + length-map p.globals unplaced_global i
