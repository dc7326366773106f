-- The analysis of ranges doesn't look at places.
use Rattle.std.specs.Prelude.{◌==◌, ◌||◌, slice_index}
use Rattle.std.specs.List.{flat_map}
use Rattle.std.proofs.Common.{◌≡◌, ℕ, Bool, true, false, List, [], ◌∷◌, ◌++◌, map, refl, ap, ◌∙◌}
use Rattle.prem_word.specs.declared.kind.Kind.{Kind}
use Rattle.prem_word.specs.declared.kind.BinOp.{BinOp}
use Rattle.prem_word.specs.Ranges.{Span, converted, range_of_op}
use Rattle.prem_syntax.specs.declared.tree.UnOp.TheVariants.{Neg, Flip, Not}
use Rattle.prem_syntax.specs.Syntax.{Parameter, LocalVariable, ProgramText}
use Rattle.prem_syntax.specs.Resolved.{Term, Constant, Local, Scalar, Element, Unary, Binary, AndAlso, OrElse, Steps, Done, SetLocal, SetScalar, SetElement, Output, Input, If, For}
use Rattle.prem_syntax.specs.Resolved.{While, Call, Routine, Resolved}
use Rattle.prem_syntax.specs.Resolve.{kind_of, promoted, resolve}
use Rattle.prem_syntax.specs.Assigned.{is_target, assigns}
use Rattle.prem_syntax.specs.Source.{unlimited}
use Rattle.prem_ranges.specs.Environment.{any_again, with_range, assigned, Environment, at_local, loosened, joined}
use Rattle.prem_ranges.specs.RangeOf.{range_of, unary_range, true_operator, cut_by, refined}
use Rattle.prem_ranges.specs.After.{in_counting, end_of, loop_end, turn_bound, body_range, range_behind, in_body, behind_loop, in_while, behind_call, after, bounds}
use Rattle.prem_ranges.specs.After.{known_parameter, known_local, declared, at_body, bounds_in}
use Rattle.prem_ranges.specs.RangesKept.{resolved, turn_bounds, bounded}
use Rattle.prem_text.specs.Canonical.Unplaced.{unplaced_parameter, unplaced_local, unplaced}
use Rattle.prem_annotate_answer.specs.Unplaced.{unplaced_term, unplaced_steps, unplaced_routine, unplaced_routines, unplaced_resolved}
use Rattle.prem_annotate_answer.proofs.UnplacedNames.{kind_same, resolve_unplaced}

-- ---- expressions

pub range_same : (env : Environment) (e : Term) → range_of env (unplaced_term e) ≡ range_of env e
range_same env (Constant at word kind) = refl
range_same env (Local at k kind) = refl
range_same env (Scalar at g ty) = refl
range_same env (Element at g ty index) = refl
range_same env (Unary at op e) = λ i. unary_range op (kind_same e i) (converted (kind_same e i) (range_same env e i))
range_same env (Binary at op kind left right) = λ i. range_of_op op kind (converted kind (range_same env left i)) (converted kind (range_same env right i))
range_same env (AndAlso at left right) = refl
range_same env (OrElse at left right) = refl

cut_same : (op : BinOp) (left : Term) (kind : Kind) (r : Span) (env : Environment) → cut_by op (unplaced_term left) kind r env ≡ cut_by op left kind r env
cut_same op (Constant at word kind) right r env = refl
cut_same op (Local at k kind) right r env = refl
cut_same op (Scalar at g ty) right r env = refl
cut_same op (Element at g ty index) right r env = refl
cut_same op (Unary at o e) right r env = refl
cut_same op (Binary at o kind a b) right r env = refl
cut_same op (AndAlso at a b) right r env = refl
cut_same op (OrElse at a b) right r env = refl

comparison_same : (b : Bool) (op : BinOp) (left right : Term) (env : Environment) →
    cut_by (true_operator b op) (unplaced_term left) (kind_of (unplaced_term right)) (range_of env (unplaced_term right)) env
    ≡ cut_by (true_operator b op) left (kind_of right) (range_of env right) env
comparison_same b op left right env =
    (λ i. cut_by (true_operator b op) (unplaced_term left) (kind_same right i) (range_same env right i) env) ∙ cut_same (true_operator b op) left (kind_of right) (range_of env right) env

pub refined_same : (b : Bool) (env : Environment) (e : Term) → refined b env (unplaced_term e) ≡ refined b env e
refined_same true env (Constant at word kind) = refl
refined_same false env (Constant at word kind) = refl
refined_same true env (Local at k kind) = refl
refined_same false env (Local at k kind) = refl
refined_same true env (Scalar at g ty) = refl
refined_same false env (Scalar at g ty) = refl
refined_same true env (Element at g ty index) = refl
refined_same false env (Element at g ty index) = refl
refined_same true env (Unary at Neg e) = refl
refined_same false env (Unary at Neg e) = refl
refined_same true env (Unary at Flip e) = refl
refined_same false env (Unary at Flip e) = refl
refined_same true env (Unary at Not e) = refined_same false env e
refined_same false env (Unary at Not e) = refined_same true env e
refined_same true env (Binary at op kind left right) = comparison_same true op left right env
refined_same false env (Binary at op kind left right) = comparison_same false op left right env
refined_same true env (AndAlso at left right) = ap (λ known. refined true known (unplaced_term right)) (refined_same true env left) ∙ refined_same true (refined true env left) right
refined_same false env (AndAlso at left right) = refl
refined_same true env (OrElse at left right) = refl
refined_same false env (OrElse at left right) = ap (λ known. refined false known (unplaced_term right)) (refined_same false env left) ∙ refined_same false (refined false env left) right

-- ---- statements

assigns_same : (k : ℕ) (b : Steps) → assigns k (unplaced_steps b) ≡ assigns k b
assigns_same k Done = refl
assigns_same k (SetLocal at other e rest) = ap (λ x. other == k || x) (assigns_same k rest)
assigns_same k (SetScalar at g ty e rest) = assigns_same k rest
assigns_same k (SetElement at g ty index e rest) = assigns_same k rest
assigns_same k (Output at e rest) = assigns_same k rest
assigns_same k (Input at other rest) = ap (λ x. other == k || x) (assigns_same k rest)
assigns_same k (If at condition taken other rest) = λ i. assigns_same k taken i || assigns_same k other i || assigns_same k rest i
assigns_same k (For at other low closed high step turns body rest) = λ i. other == k || assigns_same k body i || assigns_same k rest i
assigns_same k (While at turns condition body rest) = λ i. assigns_same k body i || assigns_same k rest i
assigns_same k (Call at target f arguments rest) = ap (λ x. is_target k target || x) (assigns_same k rest)

pub counting_same : (k : ℕ) (body : Steps) (env : Environment) → in_counting k (unplaced_steps body) env ≡ in_counting k body env
counting_same k body env = λ i. loosened (λ j. k == j || assigns_same j body i) env

pub while_same : (body : Steps) (env : Environment) → in_while (unplaced_steps body) env ≡ in_while body env
while_same body env = λ i. loosened (λ j. assigns_same j body i) env

pub end_same : (env : Environment) (k : ℕ) (closed : Bool) (high : Term) (body : Steps) → loop_end env k closed (unplaced_term high) (unplaced_steps body) ≡ loop_end env k closed high body
end_same env k closed high body =
    ap (λ known. end_of closed (range_of known (unplaced_term high))) (counting_same k body env) ∙ ap (end_of closed) (range_same (in_counting k body env) high)

pub body_same : (env : Environment) (k : ℕ) (low : Term) (closed : Bool) (high : Term) (body : Steps) →
    in_body env k (unplaced_term low) (loop_end env k closed (unplaced_term high) (unplaced_steps body)) (unplaced_steps body) ≡ in_body env k low (loop_end env k closed high body) body
body_same env k low closed high body = λ i. at_local k (with_range (body_range (range_same env low i) (end_same env k closed high body i))) (counting_same k body env i)

pub behind_same : (env : Environment) (k : ℕ) (low : Term) (closed : Bool) (high : Term) (step : ℕ) (body : Steps) →
    behind_loop env k (unplaced_term low) (loop_end env k closed (unplaced_term high) (unplaced_steps body)) step (unplaced_steps body)
    ≡ behind_loop env k low (loop_end env k closed high body) step body
behind_same env k low closed high step body = λ i. at_local k (with_range (range_behind (range_same env low i) (end_same env k closed high body i) step)) (counting_same k body env i)

pub after_same : (env : Environment) (b : Steps) → after env (unplaced_steps b) ≡ after env b
after_same env Done = refl
after_same env (SetLocal at k e rest) =
    ap (λ r. after (at_local k (assigned r) env) (unplaced_steps rest)) (range_same env e) ∙ after_same (at_local k (assigned (range_of env e)) env) rest
after_same env (SetScalar at g ty e rest) = after_same env rest
after_same env (SetElement at g ty index e rest) = after_same env rest
after_same env (Output at e rest) = after_same env rest
after_same env (Input at k rest) = after_same (at_local k any_again env) rest
after_same env (If at condition taken other rest) =
    let one = ap (λ known. after known (unplaced_steps taken)) (refined_same true env condition) ∙ after_same (refined true env condition) taken in
    let two = ap (λ known. after known (unplaced_steps other)) (refined_same false env condition) ∙ after_same (refined false env condition) other in
    ap (λ known. after known (unplaced_steps rest)) (λ i. joined (one i) (two i)) ∙ after_same (joined (after (refined true env condition) taken) (after (refined false env condition) other)) rest
after_same env (For at k low closed high step turns body rest) =
    ap (λ known. after known (unplaced_steps rest)) (behind_same env k low closed high step body) ∙ after_same (behind_loop env k low (loop_end env k closed high body) step body) rest
after_same env (While at turns condition body rest) = ap (λ known. after known (unplaced_steps rest)) (while_same body env) ∙ after_same (in_while body env) rest
after_same env (Call at target f arguments rest) = after_same (behind_call target env) rest

pub arm_same : (b : Bool) (env : Environment) (condition : Term) (arm : Steps) → after (refined b env (unplaced_term condition)) (unplaced_steps arm) ≡ after (refined b env condition) arm
arm_same b env condition arm = ap (λ known. after known (unplaced_steps arm)) (refined_same b env condition) ∙ after_same (refined b env condition) arm

pub arms_same : (env : Environment) (condition : Term) (taken other : Steps) →
    joined (after (refined true env (unplaced_term condition)) (unplaced_steps taken))
    (after (refined false env (unplaced_term condition)) (unplaced_steps other))
    ≡ joined (after (refined true env condition) taken) (after (refined false env condition) other)
arms_same env condition taken other = λ i. joined (arm_same true env condition taken i) (arm_same false env condition other i)

bounds_same : (env : Environment) (b : Steps) → bounds env (unplaced_steps b) ≡ bounds env b
bounds_same env Done = refl
bounds_same env (SetLocal at k e rest) =
    ap (λ r. bounds (at_local k (assigned r) env) (unplaced_steps rest)) (range_same env e) ∙ bounds_same (at_local k (assigned (range_of env e)) env) rest
bounds_same env (SetScalar at g ty e rest) = bounds_same env rest
bounds_same env (SetElement at g ty index e rest) = bounds_same env rest
bounds_same env (Output at e rest) = bounds_same env rest
bounds_same env (Input at k rest) = bounds_same (at_local k any_again env) rest
bounds_same env (If at condition taken other rest) =
    let one = ap (λ known. bounds known (unplaced_steps taken)) (refined_same true env condition) ∙ bounds_same (refined true env condition) taken in
    let two = ap (λ known. bounds known (unplaced_steps other)) (refined_same false env condition) ∙ bounds_same (refined false env condition) other in
    let three = ap (λ known. bounds known (unplaced_steps rest)) (arms_same env condition taken other)
    ∙ bounds_same (joined (after (refined true env condition) taken) (after (refined false env condition) other)) rest in
    λ i. one i ++ two i ++ three i
bounds_same env (For at k low closed high step turns body rest) =
    let one = ap (λ known. bounds known (unplaced_steps body)) (body_same env k low closed high body) ∙ bounds_same (in_body env k low (loop_end env k closed high body) body) body in
    let two = ap (λ known. bounds known (unplaced_steps rest)) (behind_same env k low closed high step body) ∙ bounds_same (behind_loop env k low (loop_end env k closed high body) step body) rest in
    λ i. turn_bound (range_same env low i).lo (end_same env k closed high body i) step ∷ one i ++ two i
bounds_same env (While at turns condition body rest) =
    let test : refined true (in_while (unplaced_steps body) env) (unplaced_term condition) ≡ refined true (in_while body env) condition =
    ap (λ known. refined true known (unplaced_term condition)) (while_same body env) ∙ refined_same true (in_while body env) condition in
    let one = ap (λ known. bounds known (unplaced_steps body)) test ∙ bounds_same (refined true (in_while body env) condition) body in
    let two = ap (λ known. bounds known (unplaced_steps rest)) (while_same body env) ∙ bounds_same (in_while body env) rest in
    λ i. one i ++ two i
bounds_same env (Call at target f arguments rest) = bounds_same (behind_call target env) rest

-- ---- functions

declared_same : (env : Environment) (ls : List LocalVariable) (es : List Term) → declared env (map unplaced_local ls) (map unplaced_term es) ≡ declared env ls es
declared_same env [] [] = refl
declared_same env [] (e ∷ es) = refl
declared_same env (l ∷ ls) [] = refl
declared_same env (l ∷ ls) (e ∷ es) =
    ap (λ (r : Span). declared (env ++ record { kind = promoted l.ty; range = converted (promoted l.ty) r } ∷ []) (map unplaced_local ls) (map unplaced_term es)) (range_same env e)
    ∙ declared_same (env ++ known_local env l e ∷ []) ls es

parameters_same : (ps : List Parameter) → map known_parameter (map unplaced_parameter ps) ≡ map known_parameter ps
parameters_same [] = refl
parameters_same (p ∷ ps) = ap (λ known. known_parameter p ∷ known) (parameters_same ps)

pub start_same : (f : Routine) → at_body (unplaced_routine f) ≡ at_body f
start_same f = ap (λ known. declared known (map unplaced_local f.text.locals) (map unplaced_term f.locals)) (parameters_same f.text.params)
    ∙ declared_same (map known_parameter f.text.params) f.text.locals f.locals

turns_same : (f : Routine) → bounds_in (unplaced_routine f) ≡ bounds_in f
turns_same f = ap (λ known. bounds known (unplaced_steps f.body)) (start_same f) ∙ bounds_same (at_body f) f.body

all_turns_same : (fs : List Routine) → flat_map bounds_in (unplaced_routines fs) ≡ flat_map bounds_in fs
all_turns_same [] = refl
all_turns_same (f ∷ fs) = λ i. turns_same f i ++ all_turns_same fs i

-- ---- programs

pub resolved_unplaced : (p : ProgramText) → resolved (unplaced p) ≡ unplaced_resolved (resolved p)
resolved_unplaced p = resolve_unplaced unlimited.turns p

pub turn_bounds_same : (p : ProgramText) → turn_bounds (unplaced p) ≡ turn_bounds p
unfolding turn_bounds
turn_bounds_same p = ap (λ (r : Resolved). flat_map bounds_in r.routines) (resolved_unplaced p) ∙ all_turns_same (resolved p).routines

pub bounded_unplaced : (p : ProgramText) → bounded (unplaced p) ≡ unplaced_resolved (bounded p)
bounded_unplaced p = ap (λ ts. resolve (slice_index ts) (unplaced p)) (turn_bounds_same p) ∙ resolve_unplaced (slice_index (turn_bounds p)) p
