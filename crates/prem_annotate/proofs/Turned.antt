-- What is seen of functions, and so what calls give their parameters, doesn't rest on the turns of their loops.
use Rattle.std.proofs.Common.{◌≡◌, ℕ, ◌+◌, Bool, true, false, List, ◌∷◌, ◌++◌, map, refl, ap, ◌∙◌, eqb}
use Rattle.std.specs.Prelude.{◌||◌, pos}
use Rattle.prem_annotate.proofs.Prelude.{ranges_of, outlook, Outlook, passed, ranged_parameters, ranged_routine, ranged_routines, touch, touched_by, touched_by_all, touched_in}
use Rattle.prem_annotate.proofs.Prelude.{touched_by_locals, touched_by_result, touches_of, KnownCall, known_call, calls_in, calls_of, calls_of_all, both_same, is_target, assigns, end_of}
use Rattle.prem_annotate.proofs.Prelude.{loop_end, body_range, range_behind, in_body, behind_loop, in_while, behind_call, after, known_parameter, declared, at_body, Environment, any_again}
use Rattle.prem_annotate.proofs.Prelude.{with_range, assigned, at_local, joined, loosened, range_of, refined, Alike, alike_done, alike_local, alike_scalar, alike_element, alike_output}
use Rattle.prem_annotate.proofs.Prelude.{alike_input, alike_if, alike_for, alike_while, alike_call, AlikeRoutine, AlikeRoutines, no_routines, next_routine, Term, Steps, Routine}
use Rattle.prem_annotate.proofs.Prelude.{FunctionText, exactly}

-- ---- what is known

assigns_same : {turn : ℕ → ℕ → Type 0} {a b : Steps} → Alike turn a b → (k : ℕ) → assigns k a ≡ assigns k b
assigns_same alike_done k = refl
assigns_same (alike_local at j e rest) k = ap (λ x. eqb j k || x) (assigns_same rest k)
assigns_same (alike_scalar at g ty e rest) k = assigns_same rest k
assigns_same (alike_element at g ty index e rest) k = assigns_same rest k
assigns_same (alike_output at e rest) k = assigns_same rest k
assigns_same (alike_input at j rest) k = ap (λ x. eqb j k || x) (assigns_same rest k)
assigns_same (alike_if at condition taken other rest) k = rw (assigns_same taken k, assigns_same other k, assigns_same rest k)
assigns_same (alike_for at j low closed high step turns body rest) k = rw (assigns_same body k, assigns_same rest k)
assigns_same (alike_while at turns condition body rest) k = rw (assigns_same body k, assigns_same rest k)
assigns_same (alike_call at target f arguments rest) k = ap (λ x. is_target k target || x) (assigns_same rest k)

-- a body tells by what it assigns alone
abbrev counting_by : Environment → ℕ → (ℕ → Bool) → Environment
counting_by env k assigned_in = loosened (λ j. eqb k j || assigned_in j) env

abbrev body_by : Environment → ℕ → Term → Bool → Term → (ℕ → Bool) → Environment
body_by env k low closed high in_it =
    at_local k (with_range (body_range (range_of env low) (end_of closed (range_of (counting_by env k in_it) high)))) (counting_by env k in_it)

abbrev behind_by : Environment → ℕ → Term → Bool → Term → ℕ → (ℕ → Bool) → Environment
behind_by env k low closed high step in_it =
    at_local k (with_range (range_behind (range_of env low) (end_of closed (range_of (counting_by env k in_it) high)) step)) (counting_by env k in_it)

abbrev assigned_by : Steps → ℕ → Bool
assigned_by body j = assigns j body

picks : {turn : ℕ → ℕ → Type 0} {a b : Steps} → Alike turn a b → assigned_by a ≡ assigned_by b
picks same = λ i j. assigns_same same j i

after_same : {turn : ℕ → ℕ → Type 0} {a b : Steps} → Alike turn a b → (env : Environment) → after env a ≡ after env b
after_same alike_done env = refl
after_same (alike_local at k e rest) env = after_same rest (at_local k (assigned (range_of env e)) env)
after_same (alike_scalar at g ty e rest) env = after_same rest env
after_same (alike_element at g ty index e rest) env = after_same rest env
after_same (alike_output at e rest) env = after_same rest env
after_same (alike_input at k rest) env = after_same rest (at_local k any_again env)
after_same (alike_if at c {c = t} {d = t'} {e = o} {f = o'} {a = a} taken other rest) env =
    (λ i. after (joined (after_same taken (refined true env c) i) (after_same other (refined false env c) i)) a)
    ∙ after_same rest (joined (after (refined true env c) t') (after (refined false env c) o'))
after_same (alike_for at k low closed high step {d = d} {a = a} turns body rest) env =
    ap (λ in_it. after (behind_by env k low closed high step in_it) a) (picks body) ∙ after_same rest (behind_loop env k low (loop_end env k closed high d) step d)
after_same (alike_while at turns c {d = d} {a = a} body rest) env = ap (λ (in_it : ℕ → Bool). after (loosened in_it env) a) (picks body) ∙ after_same rest (in_while d env)
after_same (alike_call at target f arguments rest) env = after_same rest (behind_call target env)

-- ---- what is seen

touched_same : {turn : ℕ → ℕ → Type 0} {a b : Steps} → Alike turn a b → (env : Environment) → touched_in env a ≡ touched_in env b
touched_same alike_done env = refl
touched_same (alike_local at k e rest) env = ap (λ l. touched_by env e ++ l) (touched_same rest (at_local k (assigned (range_of env e)) env))
touched_same (alike_scalar at g ty e rest) env = ap (λ l. touch at g (exactly (pos 0)) ∷ touched_by env e ++ l) (touched_same rest env)
touched_same (alike_element at g ty index e rest) env = ap (λ l. touch at g (range_of env index) ∷ touched_by env index ++ touched_by env e ++ l) (touched_same rest env)
touched_same (alike_output at e rest) env = ap (λ l. touched_by env e ++ l) (touched_same rest env)
touched_same (alike_input at k rest) env = touched_same rest (at_local k any_again env)
touched_same (alike_if at c {d = t'} {f = o'} {a = a} taken other rest) env =
    let yes = refined true env c in
    let no_ = refined false env c in
    both_same _ _ _ _ (both_same _ _ _ _ (ap (λ l. touched_by env c ++ l) (touched_same taken yes)) (touched_same other no_))
    ((λ i. touched_in (joined (after_same taken yes i) (after_same other no_ i)) a) ∙ touched_same rest (joined (after yes t') (after no_ o')))
touched_same (alike_for at k low closed high step {c = c} {d = d} {a = a} turns body rest) env =
    both_same _ _ _ _
    (both_same _ _ _ _ (ap (λ in_it. touched_by env low ++ touched_by (counting_by env k in_it) high) (picks body))
    (ap (λ in_it. touched_in (body_by env k low closed high in_it) c) (picks body) ∙ touched_same body (in_body env k low (loop_end env k closed high d) d)))
    (ap (λ in_it. touched_in (behind_by env k low closed high step in_it) a) (picks body) ∙ touched_same rest (behind_loop env k low (loop_end env k closed high d) step d))
touched_same (alike_while at turns condition {c = c} {d = d} {a = a} body rest) env =
    both_same _ _ _ _
    (both_same _ _ _ _ (ap (λ (in_it : ℕ → Bool). touched_by (loosened in_it env) condition) (picks body))
    (ap (λ (in_it : ℕ → Bool). touched_in (refined true (loosened in_it env) condition) c) (picks body) ∙ touched_same body (refined true (in_while d env) condition)))
    (ap (λ (in_it : ℕ → Bool). touched_in (loosened in_it env) a) (picks body) ∙ touched_same rest (in_while d env))
touched_same (alike_call at target f arguments rest) env = ap (λ l. touched_by_all env arguments ++ l) (touched_same rest (behind_call target env))

calls_same : {turn : ℕ → ℕ → Type 0} {a b : Steps} → Alike turn a b → (env : Environment) → calls_in env a ≡ calls_in env b
calls_same alike_done env = refl
calls_same (alike_local at k e rest) env = calls_same rest (at_local k (assigned (range_of env e)) env)
calls_same (alike_scalar at g ty e rest) env = calls_same rest env
calls_same (alike_element at g ty index e rest) env = calls_same rest env
calls_same (alike_output at e rest) env = calls_same rest env
calls_same (alike_input at k rest) env = calls_same rest (at_local k any_again env)
calls_same (alike_if at c {d = t'} {f = o'} {a = a} taken other rest) env =
    let yes = refined true env c in
    let no_ = refined false env c in
    both_same _ _ _ _ (both_same _ _ _ _ (calls_same taken yes) (calls_same other no_))
    ((λ i. calls_in (joined (after_same taken yes i) (after_same other no_ i)) a) ∙ calls_same rest (joined (after yes t') (after no_ o')))
calls_same (alike_for at k low closed high step {c = c} {d = d} {a = a} turns body rest) env =
    both_same _ _ _ _
    (ap (λ in_it. calls_in (body_by env k low closed high in_it) c) (picks body) ∙ calls_same body (in_body env k low (loop_end env k closed high d) d))
    (ap (λ in_it. calls_in (behind_by env k low closed high step in_it) a) (picks body) ∙ calls_same rest (behind_loop env k low (loop_end env k closed high d) step d))
calls_same (alike_while at turns condition {c = c} {d = d} {a = a} body rest) env =
    both_same _ _ _ _
    (ap (λ (in_it : ℕ → Bool). calls_in (refined true (loosened in_it env) condition) c) (picks body) ∙ calls_same body (refined true (in_while d env) condition))
    (ap (λ (in_it : ℕ → Bool). calls_in (loosened in_it env) a) (picks body) ∙ calls_same rest (in_while d env))
calls_same (alike_call at target f arguments rest) env = ap (λ l. known_call at f env arguments ∷ l) (calls_same rest (behind_call target env))

-- ---- functions

body_same : {turn : ℕ → ℕ → Type 0} {f g : Routine} → AlikeRoutine turn f g → at_body f ≡ at_body g
body_same {f = f} {g = g} same =
    ap (λ (t : FunctionText). declared (map known_parameter t.params) t.locals f.locals) same.text ∙ ap (λ es. declared (map known_parameter g.text.params) g.text.locals es) same.locals

pub calls_of_same : {turn : ℕ → ℕ → Type 0} {f g : Routine} → AlikeRoutine turn f g → calls_of f ≡ calls_of g
calls_of_same {f = f} {g = g} same = ap (λ env. calls_in env f.body) (body_same same) ∙ calls_same same.body (at_body g)

pub touches_of_same : {turn : ℕ → ℕ → Type 0} {f g : Routine} → AlikeRoutine turn f g → touches_of f ≡ touches_of g
touches_of_same {f = f} {g = g} same =
    both_same _ _ _ _
    (both_same _ _ _ _
    (ap (λ (t : FunctionText). touched_by_locals (map known_parameter t.params) t.locals f.locals) same.text
    ∙ ap (λ es. touched_by_locals (map known_parameter g.text.params) g.text.locals es) same.locals)
    (ap (λ env. touched_in env f.body) (body_same same) ∙ touched_same same.body (at_body g)))
    (ap (λ env. touched_by_result (after env f.body) f.result) (body_same same)
    ∙ ap (λ env. touched_by_result env f.result) (after_same same.body (at_body g)) ∙ ap (touched_by_result (after (at_body g) g.body)) same.result)

ranged_same : {turn : ℕ → ℕ → Type 0} {f g : Routine} (calls calls' : List KnownCall) (n : ℕ) → calls ≡ calls' → AlikeRoutine turn f g →
    AlikeRoutine turn (ranged_routine calls n f) (ranged_routine calls' n g)
ranged_same {f = f} {g = g} calls calls' n is same = record {
  text = ap (λ (t : FunctionText). record t { params = ranged_parameters calls n 0 t.params }) same.text ∙ ap (λ cs. record g.text { params = ranged_parameters cs n 0 g.text.params }) is;
  locals = same.locals;
  result = same.result;
  body = same.body;
}

all_calls_same : {turn : ℕ → ℕ → Type 0} {fs gs : List Routine} → AlikeRoutines turn fs gs → calls_of_all fs ≡ calls_of_all gs
all_calls_same no_routines = refl
all_calls_same (next_routine same rest) = both_same _ _ _ _ (calls_of_same same) (all_calls_same rest)

pub all_ranged_same : {turn : ℕ → ℕ → Type 0} {fs gs : List Routine} (n : ℕ) → AlikeRoutines turn fs gs → AlikeRoutines turn (ranged_routines n fs) (ranged_routines n gs)
all_ranged_same n no_routines = no_routines
all_ranged_same n (next_routine {fs = fs} {gs = gs} same rest) =
    let behind = all_ranged_same (n + 1) rest in
    next_routine (ranged_same (calls_of_all (ranged_routines (n + 1) fs)) (calls_of_all (ranged_routines (n + 1) gs)) n (all_calls_same behind) same) behind

outlook_is : (a b : Outlook) → a.ranges ≡ b.ranges → a.sight.touches ≡ b.sight.touches → a.sight.arguments ≡ b.sight.arguments → a ≡ b
outlook_is a b one two three = λ i. record { ranges = one i; sight = record { touches = two i; arguments = three i } }

pub outlooks_same : {turn : ℕ → ℕ → Type 0} {fs gs : List Routine} → AlikeRoutines turn fs gs → map outlook fs ≡ map outlook gs
outlooks_same no_routines = refl
outlooks_same (next_routine {f = f} {g = g} same rest) =
    let this : outlook f ≡ outlook g = outlook_is (outlook f) (outlook g) (ap (λ (t : FunctionText). ranges_of t.params) same.text) (touches_of_same same) (ap passed (calls_of_same same)) in
    λ i. this i ∷ outlooks_same rest i
