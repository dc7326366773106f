use Rattle.std.specs.Prelude.{◌^◌}
use Rattle.std.proofs.Common.{◌≡◌, ◌+◌, drop, ap, sym, ◌∙◌, arith, rules, Ok, Err, true, false}
use Rattle.std.proofs.lemmas.Grind.{common_steps}
use Rattle.prem_syntax.specs.Expressions.{and_then}
use Rattle.prem_syntax.specs.Statements.{ProgramState, bounded, holds, loop_test, loop_step}
use Rattle.prem_syntax.specs.Source.{everywhere}
use Rattle.prem_tree.specs.declared.resolve.resolved.Step.{Step}
use Rattle.prem_tree.specs.Resolve.ResolvedOf.{term_of}
use Rattle.prem_tree.specs.State.Interpreter.{state_of}
use Rattle.prem_tree.specs.StepMeaning.{do_step, do_list, do_counting, do_if_there, noted_calls}
use Rattle.prem_tree.proofs.StateLemmas.Cells.{slice_get-at, slice_get_past}
use Rattle.prem_tree.proofs.LoopLaws.{wrong_at, bounded-none, bounded-more, counting-wrong, counting-done, counting-past, counting-turn, noted_calls-none, noted_calls-below}
use Rattle.prem_tree.proofs.LoopLaws.{do_step-Block, do_list_more}
use Rattle.prem_tree.proofs.Weights.{weight, list_weight, weight-Block, weight-at, body_weight-at, left_of-call}
use Rattle.prem_tree.proofs.run.Callees.+run.Goals as goal

pub run_bounded-returns-in_err-holds : goal.run_bounded-returns-in_err-holds
run_bounded-returns-in_err-holds t c =
    let test = holds everywhere (term_of c.args.condition.now) in
    let turn = do_step (noted_calls c.args.self.now.routines.now c.args.self.now.below) c.args.body.now in
    let s = state_of c.turns.interpreter c.turns.locals.items in
    rw (sym c.turns.invariant ∙ bounded-more c.turns.left test turn s (omega arith)) (search rules)

pub run_bounded-returns-then-not-branch : goal.run_bounded-returns-then-not-branch
run_bounded-returns-then-not-branch t c =
    let test = holds everywhere (term_of c.args.condition.now) in
    let turn = do_step (noted_calls c.args.self.now.routines.now c.args.self.now.below) c.args.body.now in
    let s = state_of c.turns.interpreter c.turns.locals.items in
    rw (sym c.turns.invariant ∙ bounded-more c.turns.left test turn s (omega arith)) (first_of (search rules, grind (arith, common_steps)))

pub run_bounded-turns-preserved : goal.run_bounded-turns-preserved
run_bounded-turns-preserved t c =
    let test = holds everywhere (term_of c.args.condition.now) in
    let turn = do_step (noted_calls c.args.self.now.routines.now c.args.self.now.below) c.args.body.now in
    let s = state_of c.turns.interpreter c.turns.locals.items in
    rw (sym c.turns.invariant ∙ bounded-more c.turns.left test turn s (omega arith)) (first_of (search rules, grind (arith, common_steps)))

pub run_bounded-returns-in_err-run_step : goal.run_bounded-returns-in_err-run_step
run_bounded-returns-in_err-run_step t c =
    let test = holds everywhere (term_of c.args.condition.now) in
    let turn = do_step (noted_calls c.args.self.now.routines.now c.args.self.now.below) c.args.body.now in
    let s = state_of c.turns.interpreter c.turns.locals.items in
    rw (sym c.turns.invariant ∙ bounded-more c.turns.left test turn s (omega arith)) (search rules)

pub run_bounded-returns : goal.run_bounded-returns
run_bounded-returns t c =
    let test = holds everywhere (term_of c.args.condition.now) in
    let turn = do_step (noted_calls c.args.self.now.routines.now c.args.self.now.below) c.args.body.now in
    let s = state_of c.turns.interpreter c.turns.locals.items in
    sym c.turns.invariant ∙ bounded-none c.turns.left test turn s (omega arith)

pub run_call-returns-then-callee-self : goal.run_call-returns-then-callee-self
run_call-returns-then-callee-self t c = λ ls.
    wrong_at _ 0 (noted_calls-none c.args.self.now.routines.now c.args.self.now.below c.args.callee c.args.arguments.items (state_of c.args.interpreter.now ls) (omega arith))

pub run_call-returns-in_default : goal.run_call-returns-in_default
run_call-returns-in_default t c = λ ls.
    let rs = c.args.self.now.routines.now in
    let s = state_of c.args.interpreter.now ls in
    wrong_at _ 0
    (noted_calls-below rs c.args.self.now.below c.args.callee c.args.arguments.items s (omega arith)
    ∙ ap (λ o. do_if_there (noted_calls rs c.args.callee) o c.args.callee c.args.arguments.items s) (slice_get_past rs c.args.callee c.in_default.ensures.lookup.3))

pub run_call-returns-in_err-declare : goal.run_call-returns-in_err-declare
run_call-returns-in_err-declare t c = λ ls.
    let rs = c.args.self.now.routines.now in
    let s = state_of c.args.interpreter.now ls in
    rw (noted_calls-below rs c.args.self.now.below c.args.callee c.args.arguments.items s (omega arith)
    ∙ ap (λ o. do_if_there (noted_calls rs c.args.callee) o c.args.callee c.args.arguments.items s)
    (slice_get-at rs c.args.callee c.in-Some.routine.now c.in-Some.ensures.lookup.3.0 c.in-Some.ensures.lookup.1))
    (search rules)

pub run_call-run_step-requires : goal.run_call-run_step-requires
run_call-run_step-requires t c =
    let rs = c.args.self.now.routines.now in
    let light = body_weight-at rs c.args.callee c.in-Some.routine.now c.in-Some.ensures.lookup.3.0 c.in-Some.ensures.lookup.1 in
    (omega (arith, left_of-call rs c.args.self.now.below c.args.callee (weight c.in-Some.routine.now.body) (omega arith) light, c.decreases), omega arith)

pub run_call-returns-in_err-run_step : goal.run_call-returns-in_err-run_step
run_call-returns-in_err-run_step t c = λ ls.
    let rs = c.args.self.now.routines.now in
    let s = state_of c.args.interpreter.now ls in
    rw (noted_calls-below rs c.args.self.now.below c.args.callee c.args.arguments.items s (omega arith)
    ∙ ap (λ o. do_if_there (noted_calls rs c.args.callee) o c.args.callee c.args.arguments.items s)
    (slice_get-at rs c.args.callee c.in-Some.routine.now c.in-Some.ensures.lookup.3.0 c.in-Some.ensures.lookup.1))
    (search rules)

pub run_call-returns-in_err-w : goal.run_call-returns-in_err-w
run_call-returns-in_err-w t c = λ ls.
    let rs = c.args.self.now.routines.now in
    let s = state_of c.args.interpreter.now ls in
    rw (noted_calls-below rs c.args.self.now.below c.args.callee c.args.arguments.items s (omega arith)
    ∙ ap (λ o. do_if_there (noted_calls rs c.args.callee) o c.args.callee c.args.arguments.items s)
    (slice_get-at rs c.args.callee c.in-Some.routine.now c.in-Some.ensures.lookup.3.0 c.in-Some.ensures.lookup.1))
    (search rules)

pub run_call-returns : goal.run_call-returns
run_call-returns t c = λ ls.
    let rs = c.args.self.now.routines.now in
    let s = state_of c.args.interpreter.now ls in
    let at_end = c.in_ok-note.ensures ls in
    rw (noted_calls-below rs c.args.self.now.below c.args.callee c.args.arguments.items s (omega arith)
    ∙ ap (λ o. do_if_there (noted_calls rs c.args.callee) o c.args.callee c.args.arguments.items s)
    (slice_get-at rs c.args.callee c.in-Some.routine.now c.in-Some.ensures.lookup.3.0 c.in-Some.ensures.lookup.1))
    (first_of (search rules, grind (arith, common_steps)))

pub run_counting-returns-in_err-holds : goal.run_counting-returns-in_err-holds
run_counting-returns-in_err-holds t c =
    let test = loop_test everywhere c.args.counter.now.number c.args.counter.now.closed (term_of c.args.counter.now.high.now) in
    let body = do_step (noted_calls c.args.self.now.routines.now c.args.self.now.below) c.args.body.now in
    let turn = λ (u : ProgramState). and_then (body u) (loop_step c.args.counter.now.line c.args.counter.now.number c.args.counter.now.step) in
    let s = state_of c.turns.interpreter c.turns.locals.items in
    let wrong : test s ≡ Err c.in_err-holds.field-0.0 = first_of (search rules, grind (arith, common_steps)) in
    rw (sym c.turns.invariant ∙ counting-wrong c.args.counter.now.line c.turns.left test turn s c.in_err-holds.field-0.0 wrong) (search rules)

pub run_counting-returns-then-left-eq0 : goal.run_counting-returns-then-left-eq0
run_counting-returns-then-left-eq0 t c =
    let test = loop_test everywhere c.args.counter.now.number c.args.counter.now.closed (term_of c.args.counter.now.high.now) in
    let body = do_step (noted_calls c.args.self.now.routines.now c.args.self.now.below) c.args.body.now in
    let turn = λ (u : ProgramState). and_then (body u) (loop_step c.args.counter.now.line c.args.counter.now.number c.args.counter.now.step) in
    let s = state_of c.turns.interpreter c.turns.locals.items in
    let go : test s ≡ Ok true = first_of (search rules, grind (arith, common_steps)) in
    wrong_at _ c.args.counter.now.line (sym c.turns.invariant ∙ counting-past c.args.counter.now.line c.turns.left test turn s (omega arith) go)

pub run_counting-returns-in_err-run_step : goal.run_counting-returns-in_err-run_step
run_counting-returns-in_err-run_step t c =
    let test = loop_test everywhere c.args.counter.now.number c.args.counter.now.closed (term_of c.args.counter.now.high.now) in
    let body = do_step (noted_calls c.args.self.now.routines.now c.args.self.now.below) c.args.body.now in
    let turn = λ (u : ProgramState). and_then (body u) (loop_step c.args.counter.now.line c.args.counter.now.number c.args.counter.now.step) in
    let s = state_of c.turns.interpreter c.turns.locals.items in
    let go : test s ≡ Ok true = first_of (search rules, grind (arith, common_steps)) in
    rw (sym c.turns.invariant ∙ counting-turn c.args.counter.now.line c.turns.left test turn s (omega arith) go) (search rules)

pub run_counting-turns-preserved : goal.run_counting-turns-preserved
run_counting-turns-preserved t c =
    let test = loop_test everywhere c.args.counter.now.number c.args.counter.now.closed (term_of c.args.counter.now.high.now) in
    let body = do_step (noted_calls c.args.self.now.routines.now c.args.self.now.below) c.args.body.now in
    let turn = λ (u : ProgramState). and_then (body u) (loop_step c.args.counter.now.line c.args.counter.now.number c.args.counter.now.step) in
    let s = state_of c.turns.interpreter c.turns.locals.items in
    let go : test s ≡ Ok true = first_of (search rules, grind (arith, common_steps)) in
    rw (sym c.turns.invariant ∙ counting-turn c.args.counter.now.line c.turns.left test turn s (omega arith) go) (first_of (search rules, grind (arith, common_steps)))

pub run_counting-returns-in_err-advance : goal.run_counting-returns-in_err-advance
run_counting-returns-in_err-advance t c =
    let test = loop_test everywhere c.args.counter.now.number c.args.counter.now.closed (term_of c.args.counter.now.high.now) in
    let body = do_step (noted_calls c.args.self.now.routines.now c.args.self.now.below) c.args.body.now in
    let turn = λ (u : ProgramState). and_then (body u) (loop_step c.args.counter.now.line c.args.counter.now.number c.args.counter.now.step) in
    let s = state_of c.turns.interpreter c.turns.locals.items in
    let go : test s ≡ Ok true = first_of (search rules, grind (arith, common_steps)) in
    rw (sym c.turns.invariant ∙ counting-turn c.args.counter.now.line c.turns.left test turn s (omega arith) go) (search rules)

pub run_counting-returns : goal.run_counting-returns
run_counting-returns t c =
    let test = loop_test everywhere c.args.counter.now.number c.args.counter.now.closed (term_of c.args.counter.now.high.now) in
    let body = do_step (noted_calls c.args.self.now.routines.now c.args.self.now.below) c.args.body.now in
    let turn = λ (u : ProgramState). and_then (body u) (loop_step c.args.counter.now.line c.args.counter.now.number c.args.counter.now.step) in
    let s = state_of c.turns.interpreter c.turns.locals.items in
    let stop : test s ≡ Ok false = first_of (search rules, grind (arith, common_steps)) in
    sym c.turns.invariant ∙ counting-done c.args.counter.now.line c.turns.left test turn s stop

pub run_step-run_steps-requires : goal.run_step-run_steps-requires
run_step-run_steps-requires t c =
    let heavy : weight c.args.step.now ≡ 1 + list_weight c.items.result.now =
    ap weight c.in-Block.is ∙ weight-Block c.in-Block.body ∙ ap (λ xs. 1 + list_weight xs) (sym c.items.ensures) in
    (omega (arith, heavy, c.decreases), omega arith)

pub run_step-returns-in-Block : goal.run_step-returns-in-Block
run_step-returns-in-Block t c =
    let calls = noted_calls c.args.self.now.routines.now c.args.self.now.below in
    let s = state_of c.args.interpreter.now c.args.locals.now.items in
    rw (ap (λ x. do_step calls x s) c.in-Block.is ∙ do_step-Block calls c.in-Block.body s ∙ ap (λ xs. do_list calls xs s) (sym c.items.ensures)) c.run_steps.ensures

pub run_step-returns-in_ok-set_local-in-For : goal.run_step-returns-in_ok-set_local-in-For
run_step-returns-in_ok-set_local-in-For t c =
    let calls = noted_calls c.args.self.now.routines.now c.args.self.now.below in
    let s = state_of c.args.interpreter.now c.args.locals.now.items in
    let same : c.in-For.body.value ≡ c.deref-in-For.result.now = first_of (search rules, cc) in
    let from = λ (b : Step). do_counting (2 ^ 32) c.in-For.at.line c.in-For.number c.in-For.closed (term_of c.in-For.high) c.in-For.step (do_step calls b) in
    rw (ap (λ x. do_step calls x s) c.in-For.is ∙ ap (λ o. and_then o (from c.in-For.body.value)) c.in_ok-set_local-in-For.ensures
    ∙ ap (λ (b : Step). from b (state_of c.args.interpreter.now c.set_local-in-For.new.locals.items)) same)
    c.run_counting.ensures

pub run_step-returns-in-While : goal.run_step-returns-in-While
run_step-returns-in-While t c =
    let calls = noted_calls c.args.self.now.routines.now c.args.self.now.below in
    let s = state_of c.args.interpreter.now c.args.locals.now.items in
    let same : c.in-While.body.value ≡ c.deref-in-While.result.now = first_of (search rules, cc) in
    rw (ap (λ x. do_step calls x s) c.in-While.is ∙ ap (λ (b : Step). bounded c.in-While.turns (holds everywhere (term_of c.in-While.condition)) (do_step calls b) s) same) c.run_bounded.ensures

pub run_steps-run_step-requires : goal.run_steps-run_step-requires
run_steps-run_step-requires t c =
    let light = weight-at c.args.steps.now c.loop-step.step-index c.step-item.result (omega arith) c.step-item.is in
    (omega (arith, light, c.decreases), omega arith)

pub run_steps-loop-step-preserved : goal.run_steps-loop-step-preserved
run_steps-loop-step-preserved t c =
    let calls = noted_calls c.args.self.now.routines.now c.args.self.now.below in
    let s = state_of c.loop-step.interpreter c.loop-step.locals.items in
    let rest = do_list calls (drop (c.loop-step.step-index + 1) c.args.steps.now) in
    sym (ap (λ o. and_then o rest) c.in_ok-run_step.ensures)
    ∙ sym (do_list_more calls c.args.steps.now c.loop-step.step-index c.step-item.result s (omega arith) c.step-item.is) ∙ c.loop-step.invariant
