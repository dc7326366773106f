use Rattle.std.proofs.Common.{◌≡◌, ◌+◌, ◌*◌, drop}
use Rattle.prem_list.specs.Sequence.{items_of}
use Rattle.prem_tree.specs.Resolve.ResolvedOf.{list_loops}
use Rattle.prem_tree.proofs.Weights.{weight, list_weight}
use Rattle.prem_asm.specs.Pieces.{followed}
use Rattle.prem_asm.specs.PiecesOf.{pieces_of}
use Rattle.prem_gen.specs.Routine.Parts.{parts_in, turns_in}
use Rattle.prem_gen.specs.Routine.StepCode.{list_whiles, list_code, list_deep}
use Rattle.prem_gen.proofs.routine.steps.+steps.Given as goal

-- what is there, and the rest
abbrev pub invariant-put_steps-loop-step : goal.invariant-put_steps-loop-step
invariant-put_steps-loop-step l = record {
  pieces :
      followed (pieces_of (items_of l.pieces)) (list_code (parts_in l.task) (turns_in l.task) l.numbers.counter l.numbers.turn (drop l.step-index l.steps))
      ≡ followed (pieces_of (items_of l.fn.pieces)) (list_code (parts_in l.task) (turns_in l.task) l.fn.numbers.counter l.fn.numbers.turn l.steps);
  counter : l.numbers.counter + list_whiles (drop l.step-index l.steps) ≡ l.fn.numbers.counter + list_whiles l.steps;
  turn : l.numbers.turn + list_loops (drop l.step-index l.steps) ≡ l.fn.numbers.turn + list_loops l.steps;
  deep : list_deep (drop l.step-index l.steps) ≡ list_deep l.steps;
}

abbrev pub decreases-put_step : goal.decreases-put_step
decreases-put_step l = 3 * weight l.step.now

abbrev pub decreases-step_alone : goal.decreases-step_alone
decreases-step_alone l = 3 * weight l.step.now + 1

abbrev pub decreases-counting_body : goal.decreases-counting_body
decreases-counting_body l = 3 * weight l.body.now + 2

abbrev pub decreases-bounded_body : goal.decreases-bounded_body
decreases-bounded_body l = 3 * weight l.body.now + 1

abbrev pub decreases-put_steps : goal.decreases-put_steps
decreases-put_steps l = 3 * list_weight l.steps.now + 1
