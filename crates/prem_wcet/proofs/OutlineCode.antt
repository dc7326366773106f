-- Outlines have the code of their statements, and name and call what these do.
use Rattle.std.proofs.Common.{◌≡◌, ℕ, ◌+◌, [], ◌∷◌, ◌++◌, refl, ap, ◌∙◌, Option, Some, None}
use Rattle.prem_isa.specs.declared.instr.Instr.TheVariants.{PmIn, PmOut}
use Rattle.prem_syntax.specs.Resolved.{Steps, Done, SetLocal, SetScalar, SetElement, Output, Input, If, For, While, Call}
use Rattle.prem_syntax.specs.Reach.{callees_in}
use Rattle.prem_asm.specs.Pieces.{Pieces, no_pieces, straight, either, repeat, call_to, followed}
use Rattle.prem_asm.proofs.Rows.{followed_append}
use Rattle.prem_layout.specs.Template.Frames.{counters_in}
use Rattle.prem_layout.specs.Template.Terms.{only, constant, nonzero}
use Rattle.prem_layout.specs.Template.Steps.{steps_code, store_slot, scalar_store, element_store, bound_test, step_code, count_code, argument_code, target_code}
use Rattle.prem_wcet_laws.specs.Scopes.{Scene, globals_in, span_of, globals_in_term, globals_in_terms}
use Rattle.prem_wcet_laws.specs.Least.{term_of, bound_code, turn_of}
use Rattle.prem_wcet.specs.Outlines.{code_of, names_of, callees_of, span_in}
use Rattle.prem_wcet.specs.Outlined.{outline_of}

pub code_is : (e : Scene) (n : ℕ) (steps : Steps) → code_of (outline_of e n steps) ≡ steps_code e.parts n steps
code_is e n Done = refl
code_is e n (SetLocal pl k value rest) =
    followed_append (term_of e 10 value) (only (store_slot k ∷ [])) (code_of (outline_of e n rest)) ∙ ap (λ ps. followed (term_of e 10 value) (straight (store_slot k ∷ []) ps)) (code_is e n rest)
code_is e n (SetScalar pl g ty value rest) =
    followed_append (term_of e 10 value) (scalar_store (e.parts.global g) ty no_pieces) (code_of (outline_of e n rest))
    ∙ ap (λ ps. followed (term_of e 10 value) (scalar_store (e.parts.global g) ty ps)) (code_is e n rest)
code_is e n (SetElement pl g ty index value rest) =
    followed_append (term_of e 10 value) (followed (term_of e 11 index) (element_store (e.parts.global g) ty no_pieces)) (code_of (outline_of e n rest))
    ∙ ap (followed (term_of e 10 value)) (followed_append (term_of e 11 index) (element_store (e.parts.global g) ty no_pieces) (code_of (outline_of e n rest)))
    ∙ ap (λ ps. followed (term_of e 10 value) (followed (term_of e 11 index) (element_store (e.parts.global g) ty ps))) (code_is e n rest)
code_is e n (Output pl value rest) =
    followed_append (term_of e 10 value) (only (PmOut 10 ∷ [])) (code_of (outline_of e n rest)) ∙ ap (λ ps. followed (term_of e 10 value) (straight (PmOut 10 ∷ []) ps)) (code_is e n rest)
code_is e n (Input pl k rest) = ap (straight (PmIn 10 ∷ store_slot k ∷ [])) (code_is e n rest)
code_is e n (If pl condition taken other rest) =
    let m : ℕ = n + counters_in taken + counters_in other in
    let one : Pieces = steps_code e.parts n taken in
    let two : Pieces = steps_code e.parts (n + counters_in taken) other in
    followed_append (term_of e 10 condition) (either (nonzero 10) one two no_pieces) (code_of (outline_of e m rest))
    ∙ ap (λ ps. followed (term_of e 10 condition) (either (nonzero 10) one two ps)) (code_is e m rest)
code_is e n (For pl k low closed high step turns body rest) =
    let m : ℕ = n + counters_in body in
    let inner : Pieces = followed (steps_code e.parts n body) (only (step_code k step)) in
    followed_append (term_of e 10 low) (straight (store_slot k ∷ []) (repeat turns (bound_code e k high) (bound_test closed) inner no_pieces)) (code_of (outline_of e m rest))
    ∙ ap (λ ps. followed (term_of e 10 low) (straight (store_slot k ∷ []) (repeat turns (bound_code e k high) (bound_test closed) inner ps))) (code_is e m rest)
code_is e n (While pl turns condition body rest) =
    let m : ℕ = n + 1 + counters_in body in
    let inner : Pieces = straight (count_code n) (steps_code e.parts (n + 1) body) in
    ap (λ ps. straight (constant 10 turns) (straight (store_slot n ∷ []) (repeat turns (turn_of e n condition) (nonzero 10) inner ps))) (code_is e m rest)
code_is e n (Call pl target f arguments rest) =
    followed_append (argument_code e.parts.target e.parts.global (e.parts.frame f) 0 arguments)
    (call_to (e.parts.link f) (e.parts.callee f) (target_code target no_pieces)) (code_of (outline_of e n rest))
    ∙ ap (λ ps. followed (argument_code e.parts.target e.parts.global (e.parts.frame f) 0 arguments) (call_to (e.parts.link f) (e.parts.callee f) ps))
    (target_then target (code_of (outline_of e n rest)))
    ∙ ap (λ ps. followed (argument_code e.parts.target e.parts.global (e.parts.frame f) 0 arguments) (call_to (e.parts.link f) (e.parts.callee f) (target_code target ps))) (code_is e n rest)
  where
    target_then : (o : Option ℕ) (ps : Pieces) → followed (target_code o no_pieces) ps ≡ target_code o ps
    target_then None ps = refl
    target_then (Some k) ps = refl

pub names_are : (e : Scene) (n : ℕ) (steps : Steps) → names_of (outline_of e n steps) ≡ globals_in steps
names_are e n Done = refl
names_are e n (SetLocal pl k value rest) = ap (λ gs. globals_in_term value ++ gs) (names_are e n rest)
names_are e n (SetScalar pl g ty value rest) = ap (λ gs. g ∷ (globals_in_term value ++ gs)) (names_are e n rest)
names_are e n (SetElement pl g ty index value rest) = ap (λ gs. g ∷ ((globals_in_term index ++ globals_in_term value) ++ gs)) (names_are e n rest)
names_are e n (Output pl value rest) = ap (λ gs. globals_in_term value ++ gs) (names_are e n rest)
names_are e n (Input pl k rest) = names_are e n rest
names_are e n (If pl condition taken other rest) =
    ap (λ gs. globals_in_term condition
    ++ (gs ++ (names_of (outline_of e (n + counters_in taken) other)
    ++ names_of (outline_of e (n + counters_in taken + counters_in other) rest)))) (names_are e n taken)
    ∙ ap (λ gs. globals_in_term condition ++ (globals_in taken ++ (gs ++ names_of (outline_of e (n + counters_in taken + counters_in other) rest)))) (names_are e (n + counters_in taken) other)
    ∙ ap (λ gs. globals_in_term condition ++ (globals_in taken ++ (globals_in other ++ gs))) (names_are e (n + counters_in taken + counters_in other) rest)
names_are e n (For pl k low closed high step turns body rest) =
    ap (λ gs. (globals_in_term low ++ globals_in_term high) ++ (gs ++ names_of (outline_of e (n + counters_in body) rest))) (names_are e n body)
    ∙ ap (λ gs. (globals_in_term low ++ globals_in_term high) ++ (globals_in body ++ gs)) (names_are e (n + counters_in body) rest)
names_are e n (While pl turns condition body rest) =
    ap (λ gs. globals_in_term condition ++ (gs ++ names_of (outline_of e (n + 1 + counters_in body) rest))) (names_are e (n + 1) body)
    ∙ ap (λ gs. globals_in_term condition ++ (globals_in body ++ gs)) (names_are e (n + 1 + counters_in body) rest)
names_are e n (Call pl target f arguments rest) = ap (λ gs. globals_in_terms arguments ++ gs) (names_are e n rest)

pub callees_are : (e : Scene) (n : ℕ) (steps : Steps) → callees_of (outline_of e n steps) ≡ callees_in steps
callees_are e n Done = refl
callees_are e n (SetLocal pl k value rest) = callees_are e n rest
callees_are e n (SetScalar pl g ty value rest) = callees_are e n rest
callees_are e n (SetElement pl g ty index value rest) = callees_are e n rest
callees_are e n (Output pl value rest) = callees_are e n rest
callees_are e n (Input pl k rest) = callees_are e n rest
callees_are e n (If pl condition taken other rest) =
    ap (λ fs. fs ++ (callees_of (outline_of e (n + counters_in taken) other) ++ callees_of (outline_of e (n + counters_in taken + counters_in other) rest))) (callees_are e n taken)
    ∙ ap (λ fs. callees_in taken ++ (fs ++ callees_of (outline_of e (n + counters_in taken + counters_in other) rest))) (callees_are e (n + counters_in taken) other)
    ∙ ap (λ fs. callees_in taken ++ (callees_in other ++ fs)) (callees_are e (n + counters_in taken + counters_in other) rest)
callees_are e n (For pl k low closed high step turns body rest) =
    ap (λ fs. fs ++ callees_of (outline_of e (n + counters_in body) rest)) (callees_are e n body) ∙ ap (λ fs. callees_in body ++ fs) (callees_are e (n + counters_in body) rest)
callees_are e n (While pl turns condition body rest) =
    ap (λ fs. fs ++ callees_of (outline_of e (n + 1 + counters_in body) rest)) (callees_are e (n + 1) body) ∙ ap (λ fs. callees_in body ++ fs) (callees_are e (n + 1 + counters_in body) rest)
callees_are e n (Call pl target f arguments rest) = ap (λ fs. f ∷ fs) (callees_are e n rest)

pub span_is : (e : Scene) (n : ℕ) (steps : Steps) → span_in (outline_of e n steps) ≡ span_of e n steps
span_is e n steps = λ i. record { pieces = code_is e n steps i; globals = names_are e n steps i; callees = callees_are e n steps i }
