-- The code of steps is by what is told of the functions that they call.
use Rattle.std.proofs.Common.{◌+◌, [], ◌∷◌, refl, ap, ◌∙◌}
use Rattle.prem_isa.specs.declared.instr.Instr.TheVariants.{PmIn, PmOut}
use Rattle.prem_syntax.specs.Resolved.{Done, SetLocal, SetScalar, SetElement, Output, Input, If, For, While, Call}
use Rattle.prem_asm.specs.Pieces.{straight, either, repeat, call_to, followed}
use Rattle.prem_layout.specs.Template.Terms.{only, constant, nonzero, term_code}
use Rattle.prem_layout.specs.Template.Frames.{counters_in}
use Rattle.prem_layout.specs.Template.Steps.{load_slot, store_slot, scalar_store, element_store, bound_test, step_code, count_code, turn_code, argument_code, target_code, steps_code}
use Rattle.prem_gen.specs.Table.Same.{with_globals, CodeIsByCalls}

pub code_is_by_calls : CodeIsByCalls
code_is_by_calls t g p q n Done h = refl
code_is_by_calls t g p q n (SetLocal at k value rest) h =
    ap (λ x. followed (term_code t g 10 value) (straight (store_slot k ∷ []) x)) (code_is_by_calls t g p q n rest h)
code_is_by_calls t g p q n (SetScalar at number ty value rest) h =
    ap (λ x. followed (term_code t g 10 value) (scalar_store (g number) ty x)) (code_is_by_calls t g p q n rest h)
code_is_by_calls t g p q n (SetElement at number ty index value rest) h =
    ap (λ x. followed (term_code t g 10 value) (followed (term_code t g 11 index) (element_store (g number) ty x))) (code_is_by_calls t g p q n rest h)
code_is_by_calls t g p q n (Output at value rest) h =
    ap (λ x. followed (term_code t g 10 value) (straight (PmOut 10 ∷ []) x)) (code_is_by_calls t g p q n rest h)
code_is_by_calls t g p q n (Input at k rest) h = ap (straight (PmIn 10 ∷ store_slot k ∷ [])) (code_is_by_calls t g p q n rest h)
code_is_by_calls t g p q n (If at condition taken other rest) h =
    let c = term_code t g 10 condition in
    ap (λ x. followed c (either (nonzero 10) x (steps_code (with_globals t g p) (n + counters_in taken) other)
    (steps_code (with_globals t g p) (n + counters_in taken + counters_in other) rest))) (code_is_by_calls t g p q n taken h.0)
    ∙ ap (λ x. followed c (either (nonzero 10) (steps_code (with_globals t g q) n taken) x
    (steps_code (with_globals t g p) (n + counters_in taken + counters_in other) rest))) (code_is_by_calls t g p q (n + counters_in taken) other h.1.0)
    ∙ ap (λ x. followed c (either (nonzero 10) (steps_code (with_globals t g q) n taken)
    (steps_code (with_globals t g q) (n + counters_in taken) other) x)) (code_is_by_calls t g p q (n + counters_in taken + counters_in other) rest h.1.1)
code_is_by_calls t g p q n (For at k low closed high step turns body rest) h =
    let l = term_code t g 10 low in
    let head = straight (load_slot k ∷ []) (term_code t g 11 high) in
    ap (λ x. followed l (straight (store_slot k ∷ [])
    (repeat turns head (bound_test closed) (followed x (only (step_code k step))) (steps_code (with_globals t g p) (n + counters_in body) rest))))
    (code_is_by_calls t g p q n body h.0)
    ∙ ap (λ x. followed l (straight (store_slot k ∷ [])
    (repeat turns head (bound_test closed) (followed (steps_code (with_globals t g q) n body) (only (step_code k step))) x)))
    (code_is_by_calls t g p q (n + counters_in body) rest h.1)
code_is_by_calls t g p q n (While at turns condition body rest) h =
    ap (λ x. straight (constant 10 turns)
    (straight (store_slot n ∷ []) (repeat turns (turn_code t g n condition) (nonzero 10) (straight (count_code n) x)
    (steps_code (with_globals t g p) (n + 1 + counters_in body) rest)))) (code_is_by_calls t g p q (n + 1) body h.0)
    ∙ ap (λ x. straight (constant 10 turns)
    (straight (store_slot n ∷ []) (repeat turns (turn_code t g n condition) (nonzero 10)
    (straight (count_code n) (steps_code (with_globals t g q) (n + 1) body)) x))) (code_is_by_calls t g p q (n + 1 + counters_in body) rest h.1)
code_is_by_calls t g p q n (Call at target f arguments rest) h =
    ap (λ k. followed (argument_code t g k 0 arguments) (call_to (p.link f) (p.callee f) (target_code target (steps_code (with_globals t g p) n rest)))) h.0.frame_is
    ∙ ap (λ k. followed (argument_code t g (q.frame f) 0 arguments) (call_to k (p.callee f) (target_code target (steps_code (with_globals t g p) n rest)))) h.0.link_is
    ∙ ap (λ k. followed (argument_code t g (q.frame f) 0 arguments) (call_to (q.link f) k (target_code target (steps_code (with_globals t g p) n rest)))) h.0.callee_is
    ∙ ap (λ x. followed (argument_code t g (q.frame f) 0 arguments) (call_to (q.link f) (q.callee f) (target_code target x))) (code_is_by_calls t g p q n rest h.1)
