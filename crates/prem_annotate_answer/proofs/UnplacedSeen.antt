-- Annotations don't rest on places: those of a program whose places are put aside are those of the program.
use Rattle.std.specs.Prelude.{◌==◌, if◌then◌else◌, slice_get, pos}
use Rattle.std.specs.List.{flat_map}
use Rattle.std.specs.Option.{option_map}
use Rattle.std.proofs.Common.{◌≡◌, ℕ, zero, suc, ◌+◌, Bool, true, false, List, [], ◌∷◌, ◌++◌, map, refl, ap, sym, ◌∙◌, Option, None, Some}
use Rattle.std.proofs.lemmas.List.{map-append}
use Rattle.prem_word.specs.declared.kind.Kind.{Kind}
use Rattle.prem_word.specs.Ranges.{Span, exactly, converted}
use Rattle.prem_syntax.specs.declared.tree.Place.{Place}
use Rattle.prem_syntax.specs.Syntax.{Parameter, LocalVariable, RegionText, MarkText, GlobalVariable, FunctionText, global_item, function_item, ProgramText}
use Rattle.prem_syntax.specs.Resolved.{Term, Constant, Local, Scalar, Element, Unary, Binary, AndAlso, OrElse, Steps, Done, SetLocal, SetScalar, SetElement, Output, Input, If, For}
use Rattle.prem_syntax.specs.Resolved.{While, Call, Routine, Resolved}
use Rattle.prem_syntax.specs.Resolve.{promoted}
use Rattle.prem_syntax.specs.Reach.{is_in, callee_table, reach_set}
use Rattle.prem_ranges.specs.Environment.{any_again, assigned, Environment, at_local, joined}
use Rattle.prem_ranges.specs.RangeOf.{range_of, refined}
use Rattle.prem_ranges.specs.After.{loop_end, in_counting, in_body, behind_loop, in_while, behind_call, after, known_parameter, known_local, at_body}
use Rattle.prem_ranges.specs.RangesKept.{resolved}
use Rattle.prem_text.specs.Grammar.Reader.{nowhere}
use Rattle.prem_text.specs.Canonical.Unplaced.{unplaced_region, unplaced_mark, unplaced_parameter, unplaced_local, unplaced_global, unplaced_function, unplaced}
use Rattle.prem_annotating.specs.Seen.{GlobalAccess, touch, touched_by, touched_by_all, touched_in, touched_by_locals, touched_by_result, touches_of, KnownCall, known_call, calls_in, calls_of, calls_of_all}
use Rattle.prem_annotating.specs.Inferred.{join_all, argument_at, given, if_narrower, stated_or, ranged_parameters, with_parameters, ranged_before, ranged_routines}
use Rattle.prem_annotating.specs.Reached.{elements_of, elements_if, elements_in, region_of, regions_from, regions_reached}
use Rattle.prem_annotating.specs.Annotated.{annotated_mark, marked_routines, with_texts, texts_of, all_annotated, annotated}
use Rattle.prem_annotate_answer.specs.Unplaced.{unplaced_term, unplaced_steps, unplaced_routine, unplaced_routines}
use Rattle.prem_annotate_answer.proofs.UnplacedRanges.{range_same, refined_same, counting_same, while_same, body_same, behind_same, after_same, arms_same, start_same, resolved_unplaced}
use Rattle.prem_annotate_answer.proofs.UnplacedCode.{table_same}

-- ---- accesses

abbrev unplaced_touch : GlobalAccess → GlobalAccess
unplaced_touch t = record { at = nowhere; global = t.global; elements = t.elements }

-- two lists, one behind the other
both : (a b a' b' : List GlobalAccess) → a' ≡ map unplaced_touch a → b' ≡ map unplaced_touch b → a' ++ b' ≡ map unplaced_touch (a ++ b)
both a b a' b' one two = (λ i. one i ++ two i) ∙ sym (map-append unplaced_touch a b)

front : (t : GlobalAccess) (a a' : List GlobalAccess) → a' ≡ map unplaced_touch a → unplaced_touch t ∷ a' ≡ map unplaced_touch (t ∷ a)
front t a a' e = ap (λ ts. unplaced_touch t ∷ ts) e

by_same : (env : Environment) (e : Term) → touched_by env (unplaced_term e) ≡ map unplaced_touch (touched_by env e)
by_same env (Constant at word kind) = refl
by_same env (Local at k kind) = refl
by_same env (Scalar at g ty) = refl
by_same env (Element at g ty index) = λ i. touch nowhere g (range_same env index i) ∷ by_same env index i
by_same env (Unary at op e) = by_same env e
by_same env (Binary at op kind left right) = both (touched_by env left) (touched_by env right) _ _ (by_same env left) (by_same env right)
by_same env (AndAlso at left right) =
    both (touched_by env left) (touched_by (refined true env left) right) _ _ (by_same env left)
    (ap (λ known. touched_by known (unplaced_term right)) (refined_same true env left) ∙ by_same (refined true env left) right)
by_same env (OrElse at left right) =
    both (touched_by env left) (touched_by (refined false env left) right) _ _ (by_same env left)
    (ap (λ known. touched_by known (unplaced_term right)) (refined_same false env left) ∙ by_same (refined false env left) right)

all_same : (env : Environment) (es : List Term) → touched_by_all env (map unplaced_term es) ≡ map unplaced_touch (touched_by_all env es)
all_same env [] = refl
all_same env (e ∷ es) = both (touched_by env e) (touched_by_all env es) _ _ (by_same env e) (all_same env es)

in_same : (env : Environment) (b : Steps) → touched_in env (unplaced_steps b) ≡ map unplaced_touch (touched_in env b)
in_same env Done = refl
in_same env (SetLocal at k e rest) =
    both (touched_by env e) (touched_in (at_local k (assigned (range_of env e)) env) rest) _ _ (by_same env e)
    (ap (λ r. touched_in (at_local k (assigned r) env) (unplaced_steps rest)) (range_same env e) ∙ in_same (at_local k (assigned (range_of env e)) env) rest)
in_same env (SetScalar at g ty e rest) =
    front (touch at g (exactly (pos 0))) (touched_by env e ++ touched_in env rest) _ (both (touched_by env e) (touched_in env rest) _ _ (by_same env e) (in_same env rest))
in_same env (SetElement at g ty index e rest) =
    let behind = both (touched_by env index ++ touched_by env e) (touched_in env rest) _ _
    (both (touched_by env index) (touched_by env e) _ _ (by_same env index) (by_same env e)) (in_same env rest) in
    λ i. touch nowhere g (range_same env index i) ∷ behind i
in_same env (Output at e rest) = both (touched_by env e) (touched_in env rest) _ _ (by_same env e) (in_same env rest)
in_same env (Input at k rest) = in_same (at_local k any_again env) rest
in_same env (If at condition taken other rest) =
    let test = touched_by env condition in
    let one = touched_in (refined true env condition) taken in
    let two = touched_in (refined false env condition) other in
    let known = joined (after (refined true env condition) taken) (after (refined false env condition) other) in
    both (test ++ one ++ two) (touched_in known rest) _ _
    (both (test ++ one) two _ _
    (both test one _ _ (by_same env condition) (ap (λ x. touched_in x (unplaced_steps taken)) (refined_same true env condition) ∙ in_same (refined true env condition) taken))
    (ap (λ x. touched_in x (unplaced_steps other)) (refined_same false env condition) ∙ in_same (refined false env condition) other))
    (ap (λ x. touched_in x (unplaced_steps rest)) (arms_same env condition taken other) ∙ in_same known rest)
in_same env (For at k low closed high step turns body rest) =
    let end = loop_end env k closed high body in
    let first = touched_by env low in
    let second = touched_by (in_counting k body env) high in
    let third = touched_in (in_body env k low end body) body in
    both (first ++ second ++ third) (touched_in (behind_loop env k low end step body) rest) _ _
    (both (first ++ second) third _ _
    (both first second _ _ (by_same env low) (ap (λ x. touched_by x (unplaced_term high)) (counting_same k body env) ∙ by_same (in_counting k body env) high))
    (ap (λ x. touched_in x (unplaced_steps body)) (body_same env k low closed high body) ∙ in_same (in_body env k low end body) body))
    (ap (λ x. touched_in x (unplaced_steps rest)) (behind_same env k low closed high step body) ∙ in_same (behind_loop env k low end step body) rest)
in_same env (While at turns condition body rest) =
    let inside = in_while body env in
    let test : refined true (in_while (unplaced_steps body) env) (unplaced_term condition) ≡ refined true (in_while body env) condition =
    ap (λ known. refined true known (unplaced_term condition)) (while_same body env) ∙ refined_same true (in_while body env) condition in
    both (touched_by inside condition ++ touched_in (refined true inside condition) body) (touched_in inside rest) _ _
    (both (touched_by inside condition) (touched_in (refined true inside condition) body) _ _
    (ap (λ x. touched_by x (unplaced_term condition)) (while_same body env) ∙ by_same inside condition)
    (ap (λ x. touched_in x (unplaced_steps body)) test ∙ in_same (refined true inside condition) body))
    (ap (λ x. touched_in x (unplaced_steps rest)) (while_same body env) ∙ in_same inside rest)
in_same env (Call at target f arguments rest) =
    both (touched_by_all env arguments) (touched_in (behind_call target env) rest) _ _ (all_same env arguments) (in_same (behind_call target env) rest)

locals_same : (env : Environment) (ls : List LocalVariable) (es : List Term) → touched_by_locals env (map unplaced_local ls) (map unplaced_term es) ≡ map unplaced_touch (touched_by_locals env ls es)
locals_same env [] [] = refl
locals_same env [] (e ∷ es) = refl
locals_same env (l ∷ ls) [] = refl
locals_same env (l ∷ ls) (e ∷ es) =
    both (touched_by env e) (touched_by_locals (env ++ known_local env l e ∷ []) ls es) _ _ (by_same env e)
    (ap (λ (r : Span). touched_by_locals (env ++ record { kind = promoted l.ty; range = converted (promoted l.ty) r } ∷ []) (map unplaced_local ls) (map unplaced_term es)) (range_same env e)
    ∙ locals_same (env ++ known_local env l e ∷ []) ls es)

result_same : (env : Environment) (e : Option Term) → touched_by_result env (option_map unplaced_term e) ≡ map unplaced_touch (touched_by_result env e)
result_same env None = refl
result_same env (Some e) = by_same env e

parameters_same : (ps : List Parameter) → map known_parameter (map unplaced_parameter ps) ≡ map known_parameter ps
parameters_same [] = refl
parameters_same (p ∷ ps) = ap (λ known. known_parameter p ∷ known) (parameters_same ps)

touches_same : (f : Routine) → touches_of (unplaced_routine f) ≡ map unplaced_touch (touches_of f)
touches_same f =
    let entry = map known_parameter f.text.params in
    let first = touched_by_locals entry f.text.locals f.locals in
    let second = touched_in (at_body f) f.body in
    let third = touched_by_result (after (at_body f) f.body) f.result in
    let end : after (at_body (unplaced_routine f)) (unplaced_steps f.body) ≡ after (at_body f) f.body = ap (λ x. after x (unplaced_steps f.body)) (start_same f) ∙ after_same (at_body f) f.body in
    both (first ++ second) third _ _
    (both first second _ _
    (ap (λ x. touched_by_locals x (map unplaced_local f.text.locals) (map unplaced_term f.locals)) (parameters_same f.text.params) ∙ locals_same entry f.text.locals f.locals)
    (ap (λ x. touched_in x (unplaced_steps f.body)) (start_same f) ∙ in_same (at_body f) f.body))
    (ap (λ x. touched_by_result x (option_map unplaced_term f.result)) end ∙ result_same (after (at_body f) f.body) f.result)

-- ---- regions

elements_bare : (g : ℕ) (ts : List GlobalAccess) → flat_map (elements_of g) (map unplaced_touch ts) ≡ flat_map (elements_of g) ts
elements_bare g [] = refl
elements_bare g (t ∷ ts) = ap (λ l. elements_of g t ++ l) (elements_bare g ts)

elements_there : (b : Bool) (g : ℕ) (f : Routine) → elements_if b g (unplaced_routine f) ≡ elements_if b g f
elements_there true g f = ap (flat_map (elements_of g)) (touches_same f) ∙ elements_bare g (touches_of f)
elements_there false g f = refl

elements_same : (set : List Bool) (g n : ℕ) (fs : List Routine) → elements_in set g n (unplaced_routines fs) ≡ elements_in set g n fs
elements_same set g n [] = refl
elements_same set g n (f ∷ fs) = λ i. elements_there (is_in set n) g f i ++ elements_same set g (n + 1) fs i

region_bare : (at : Place) (name : List ℕ) (o : Option Span) → region_of nowhere name o ≡ map unplaced_region (region_of at name o)
region_bare at name None = refl
region_bare at name (Some r) = refl

regions_same : (at : Place) (fs : List Routine) (set : List Bool) (g : ℕ) (vs : List GlobalVariable) →
    regions_from nowhere (unplaced_routines fs) set g (map unplaced_global vs) ≡ map unplaced_region (regions_from at fs set g vs)
regions_same at fs set g [] = refl
regions_same at fs set g (v ∷ vs) =
    let this = ap (λ l. region_of nowhere v.name (join_all l)) (elements_same set g 0 fs) ∙ region_bare at v.name (join_all (elements_in set g 0 fs)) in
    (λ i. this i ++ regions_same at fs set (g + 1) vs i) ∙ sym (map-append unplaced_region (region_of at v.name (join_all (elements_in set g 0 fs))) (regions_from at fs set (g + 1) vs))

reached_same : (at : Place) (gs : List GlobalVariable) (fs : List Routine) (n : ℕ) →
    regions_reached nowhere (map unplaced_global gs) (unplaced_routines fs) n ≡ map unplaced_region (regions_reached at gs fs n)
reached_same at gs fs n =
    ap (λ table. regions_from nowhere (unplaced_routines fs) (reach_set table n) 0 (map unplaced_global gs)) (table_same fs) ∙ regions_same at fs (reach_set (callee_table fs) n) 0 gs

mark_same : (rs : List RegionText) (length : ℕ) (m : Option MarkText) →
    option_map (annotated_mark (map unplaced_region rs) length) (option_map unplaced_mark m)
    ≡ option_map unplaced_mark (option_map (annotated_mark rs length) m)
mark_same rs length None = refl
mark_same rs length (Some m) = refl

marked_same : (lengths : ℕ → ℕ) (gs : List GlobalVariable) (fs : List Routine) (n : ℕ) (rest : List Routine) →
    marked_routines lengths (map unplaced_global gs) (unplaced_routines fs) n (unplaced_routines rest) ≡ unplaced_routines (marked_routines lengths gs fs n rest)
marked_same lengths gs fs n [] = refl
marked_same lengths gs fs n (f ∷ rest) =
    let mark = ap (λ rs. option_map (annotated_mark rs (lengths n)) (option_map unplaced_mark f.text.mark)) (reached_same f.text.at gs fs n)
    ∙ mark_same (regions_reached f.text.at gs fs n) (lengths n) f.text.mark in
    λ i. record (unplaced_routine f) { text = record (unplaced_function f.text) { mark = mark i } } ∷ marked_same lengths gs fs (n + 1) rest i

-- ---- calls

abbrev unplaced_call : KnownCall → KnownCall
unplaced_call c = record { at = nowhere; callee = c.callee; known = c.known; arguments = map unplaced_term c.arguments }

joint : (a b a' b' : List KnownCall) → a' ≡ map unplaced_call a → b' ≡ map unplaced_call b → a' ++ b' ≡ map unplaced_call (a ++ b)
joint a b a' b' one two = (λ i. one i ++ two i) ∙ sym (map-append unplaced_call a b)

calls_same : (env : Environment) (b : Steps) → calls_in env (unplaced_steps b) ≡ map unplaced_call (calls_in env b)
calls_same env Done = refl
calls_same env (SetLocal at k e rest) =
    ap (λ r. calls_in (at_local k (assigned r) env) (unplaced_steps rest)) (range_same env e) ∙ calls_same (at_local k (assigned (range_of env e)) env) rest
calls_same env (SetScalar at g ty e rest) = calls_same env rest
calls_same env (SetElement at g ty index e rest) = calls_same env rest
calls_same env (Output at e rest) = calls_same env rest
calls_same env (Input at k rest) = calls_same (at_local k any_again env) rest
calls_same env (If at condition taken other rest) =
    let one = calls_in (refined true env condition) taken in
    let two = calls_in (refined false env condition) other in
    let known = joined (after (refined true env condition) taken) (after (refined false env condition) other) in
    joint (one ++ two) (calls_in known rest) _ _
    (joint one two _ _
    (ap (λ x. calls_in x (unplaced_steps taken)) (refined_same true env condition) ∙ calls_same (refined true env condition) taken)
    (ap (λ x. calls_in x (unplaced_steps other)) (refined_same false env condition) ∙ calls_same (refined false env condition) other))
    (ap (λ x. calls_in x (unplaced_steps rest)) (arms_same env condition taken other) ∙ calls_same known rest)
calls_same env (For at k low closed high step turns body rest) =
    let end = loop_end env k closed high body in
    joint (calls_in (in_body env k low end body) body) (calls_in (behind_loop env k low end step body) rest) _ _
    (ap (λ x. calls_in x (unplaced_steps body)) (body_same env k low closed high body) ∙ calls_same (in_body env k low end body) body)
    (ap (λ x. calls_in x (unplaced_steps rest)) (behind_same env k low closed high step body) ∙ calls_same (behind_loop env k low end step body) rest)
calls_same env (While at turns condition body rest) =
    let inside = in_while body env in
    let test : refined true (in_while (unplaced_steps body) env) (unplaced_term condition) ≡ refined true (in_while body env) condition =
    ap (λ known. refined true known (unplaced_term condition)) (while_same body env) ∙ refined_same true (in_while body env) condition in
    joint (calls_in (refined true inside condition) body) (calls_in inside rest) _ _
    (ap (λ x. calls_in x (unplaced_steps body)) test ∙ calls_same (refined true inside condition) body)
    (ap (λ x. calls_in x (unplaced_steps rest)) (while_same body env) ∙ calls_same inside rest)
calls_same env (Call at target f arguments rest) = ap (λ cs. known_call nowhere f env (map unplaced_term arguments) ∷ cs) (calls_same (behind_call target env) rest)

all_calls_same : (fs : List Routine) → calls_of_all (unplaced_routines fs) ≡ map unplaced_call (calls_of_all fs)
all_calls_same [] = refl
all_calls_same (f ∷ fs) =
    joint (calls_of f) (calls_of_all fs) _ _ (ap (λ x. calls_in x (unplaced_steps f.body)) (start_same f) ∙ calls_same (at_body f) f.body) (all_calls_same fs)

argument_same : (env : Environment) (kind : Kind) (k : ℕ) (es : List Term) → argument_at env kind (slice_get (map unplaced_term es) k) ≡ argument_at env kind (slice_get es k)
argument_same env kind k [] = refl
argument_same env kind zero (e ∷ es) = ap (λ r. converted kind r ∷ []) (range_same env e)
argument_same env kind (suc k) (e ∷ es) = argument_same env kind k es

given_same : (f k : ℕ) (kind : Kind) (cs : List KnownCall) → given (map unplaced_call cs) f k kind ≡ given cs f k kind
given_same f k kind [] = refl
given_same f k kind (c ∷ cs) = λ i. (if c.callee == f then argument_same c.known kind k c.arguments i else []) ++ given_same f k kind cs i

-- ---- parameters

ranged_same : (cs : List KnownCall) (f k : ℕ) (ps : List Parameter) → ranged_parameters (map unplaced_call cs) f k (map unplaced_parameter ps) ≡ map unplaced_parameter (ranged_parameters cs f k ps)
ranged_same cs f k [] = refl
ranged_same cs f k (p ∷ ps) =
    λ i. record { at = nowhere; ty = p.ty; name = p.name; range = stated_or p.range (if_narrower (promoted p.ty) (join_all (given_same f k (promoted p.ty) cs i))) } ∷ ranged_same cs f (k + 1) ps i

routines_ranged : (n : ℕ) (fs : List Routine) → ranged_routines n (unplaced_routines fs) ≡ unplaced_routines (ranged_routines n fs)
routines_ranged n [] = refl
routines_ranged n (f ∷ fs) =
    let later = ranged_routines (n + 1) fs in
    let rest = routines_ranged (n + 1) fs in
    let ps = ap (λ cs. ranged_parameters cs n 0 (map unplaced_parameter f.text.params)) (all_calls_same later) ∙ ranged_same (calls_of_all later) n 0 f.text.params in
    ap (λ l. ranged_before n (unplaced_routine f) l) rest ∙ (λ i. with_parameters (ps i) (unplaced_routine f) ∷ unplaced_routines later)

-- ---- programs

texts_bare : (fs : List Routine) → texts_of (unplaced_routines fs) ≡ map unplaced_function (texts_of fs)
texts_bare [] = refl
texts_bare (f ∷ fs) = ap (λ ts. unplaced_function f.text ∷ ts) (texts_bare fs)

texts_put : (ts : List FunctionText) (p : ProgramText) → with_texts (map unplaced_function ts) (unplaced p) ≡ unplaced (with_texts ts p)
texts_put ts [] = refl
texts_put ts (global_item g ∷ items) = ap (λ l. global_item (unplaced_global g) ∷ l) (texts_put ts items)
texts_put [] (function_item f ∷ items) = ap (λ l. function_item (unplaced_function f) ∷ l) (texts_put [] items)
texts_put (t ∷ ts) (function_item f ∷ items) = ap (λ l. function_item (unplaced_function t) ∷ l) (texts_put ts items)

-- the annotations of a program whose places are put aside
pub annotated_unplaced : (lengths : ℕ → ℕ) (p : ProgramText) → annotated lengths (unplaced p) ≡ unplaced (annotated lengths p)
annotated_unplaced lengths p =
    let r = resolved p in
    let fs = ranged_routines 0 r.routines in
    let all : all_annotated lengths (unplaced p) ≡ unplaced_routines (all_annotated lengths p) =
    ap (λ (q : Resolved). marked_routines lengths q.globals (ranged_routines 0 q.routines) 0 (ranged_routines 0 q.routines)) (resolved_unplaced p)
    ∙ ap (λ l. marked_routines lengths (map unplaced_global r.globals) l 0 l) (routines_ranged 0 r.routines)
    ∙ marked_same lengths r.globals fs 0 fs in
    ap (λ l. with_texts (texts_of l) (unplaced p)) all ∙ ap (λ ts. with_texts ts (unplaced p)) (texts_bare (all_annotated lengths p)) ∙ texts_put (texts_of (all_annotated lengths p)) p
