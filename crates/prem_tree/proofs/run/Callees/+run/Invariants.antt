use Rattle.std.proofs.Common.{◌≡◌, ◌+◌, ◌*◌, drop}
use Rattle.prem_syntax.specs.Statements.{bounded, holds}
use Rattle.prem_syntax.specs.Source.{everywhere}
use Rattle.prem_tree.specs.Resolve.ResolvedOf.{term_of}
use Rattle.prem_tree.specs.State.Interpreter.{state_of}
use Rattle.prem_tree.specs.StepMeaning.{do_step, do_list, do_counting, noted_calls}
use Rattle.prem_tree.proofs.Weights.{weight, list_weight, left_of}
use Rattle.prem_tree.proofs.run.Callees.+run.Given as goal

abbrev pub decreases-run_step : goal.decreases-run_step
decreases-run_step l = left_of l.self.now.routines.now l.self.now.below (2 * weight l.step.now)

abbrev pub decreases-run_steps : goal.decreases-run_steps
decreases-run_steps l = left_of l.self.now.routines.now l.self.now.below (2 * list_weight l.steps.now + 1)

abbrev pub decreases-run_counting : goal.decreases-run_counting
decreases-run_counting l = left_of l.self.now.routines.now l.self.now.below (2 * weight l.body.now + 1)

abbrev pub decreases-run_bounded : goal.decreases-run_bounded
decreases-run_bounded l = left_of l.self.now.routines.now l.self.now.below (2 * weight l.body.now + 1)

abbrev pub decreases-call : goal.decreases-call
decreases-call l = left_of l.self.now.routines.now l.self.now.below 1

abbrev pub decreases-run_call : goal.decreases-run_call
decreases-run_call l = left_of l.self.now.routines.now l.self.now.below 0

abbrev pub invariant-run_steps-loop-step : goal.invariant-run_steps-loop-step
invariant-run_steps-loop-step l =
    do_list (noted_calls l.self.routines.now l.self.below) (drop l.step-index l.steps) (state_of l.interpreter l.locals.items)
    ≡ do_list (noted_calls l.self.routines.now l.self.below) l.steps (state_of l.fn.interpreter l.fn.locals.items)

abbrev pub invariant-run_counting-turns : goal.invariant-run_counting-turns
invariant-run_counting-turns l =
    do_counting l.left l.counter.line l.counter.number l.counter.closed (term_of l.counter.high.now) l.counter.step
    (do_step (noted_calls l.self.routines.now l.self.below) l.body) (state_of l.interpreter l.locals.items)
    ≡ do_counting l.turns l.counter.line l.counter.number l.counter.closed (term_of l.counter.high.now) l.counter.step
    (do_step (noted_calls l.self.routines.now l.self.below) l.body) (state_of l.fn.interpreter l.fn.locals.items)

abbrev pub decreases-run_counting-turns : goal.decreases-run_counting-turns
decreases-run_counting-turns l = l.left

abbrev pub invariant-run_bounded-turns : goal.invariant-run_bounded-turns
invariant-run_bounded-turns l =
    bounded l.left (holds everywhere (term_of l.condition)) (do_step (noted_calls l.self.routines.now l.self.below) l.body) (state_of l.interpreter l.locals.items)
    ≡ bounded l.turns (holds everywhere (term_of l.condition)) (do_step (noted_calls l.self.routines.now l.self.below) l.body) (state_of l.fn.interpreter l.fn.locals.items)

abbrev pub decreases-run_bounded-turns : goal.decreases-run_bounded-turns
decreases-run_bounded-turns l = l.left
