use Rattle.std.proofs.Common.{◌≡◌, ◌+◌, ap, sym, ◌∙◌, drop, arith}
use Rattle.prem_list.specs.Sequence.{items_of}
use Rattle.prem_tree.specs.Resolve.ResolvedOf.{loops_of, list_loops}
use Rattle.prem_tree.proofs.Weights.{weight, list_weight, weight-Block, weight-at}
use Rattle.prem_asm.specs.Pieces.{followed}
use Rattle.prem_asm.specs.PiecesOf.{pieces_of}
use Rattle.prem_asm.proofs.Rows.{followed_append, followed_none}
use Rattle.prem_layout.specs.Template.Limits.{first_of as first_place_of}
use Rattle.prem_gen.specs.Routine.Parts.{parts_in, turns_in}
use Rattle.prem_gen.specs.Routine.StepCode.{whiles_of, list_whiles, code_at, list_code, list_deep}
use Rattle.prem_gen.proofs.RoutineLemmas.Lists.{drop_end}
use Rattle.prem_gen.proofs.RoutineLemmas.Nodes.{block_whiles, block_loops, block_code, block_deep, block_small, small_at, steps_drop}
use Rattle.prem_gen.proofs.routine.steps.+steps.Goals as goal

pub put_step-put_steps-requires : goal.put_step-put_steps-requires
put_step-put_steps-requires t c =
    let small = block_small c.args.task.now.callees.now c.args.step.now c.in-Block.body c.items.result.now c.in-Block.is c.items.ensures c.requires.small in
    let whiles = block_whiles c.args.step.now c.in-Block.body c.items.result.now c.in-Block.is c.items.ensures in
    let loops = block_loops c.args.step.now c.in-Block.body c.items.result.now c.in-Block.is c.items.ensures in
    let heavy : weight c.args.step.now ≡ 1 + list_weight c.items.result.now =
    ap weight c.in-Block.is ∙ weight-Block c.in-Block.body ∙ ap (λ xs. 1 + list_weight xs) (sym c.items.ensures) in
    (omega (arith, heavy, c.decreases), (c.requires.first, (small, (omega (arith, whiles, c.requires.counters), omega (arith, loops, c.requires.turns)))))

pub put_step-returns-in-Block-clause-pieces : goal.put_step-returns-in-Block-clause-pieces
put_step-returns-in-Block-clause-pieces t c =
    rw (block_code (parts_in c.args.task.now) (turns_in c.args.task.now)
    c.args.numbers.now.counter c.args.numbers.now.turn c.args.step.now c.in-Block.body c.items.result.now c.in-Block.is c.items.ensures)
    c.put_steps.ensures.pieces

pub put_step-returns-in-Block-clause-counter : goal.put_step-returns-in-Block-clause-counter
put_step-returns-in-Block-clause-counter t c =
    rw (block_whiles c.args.step.now c.in-Block.body c.items.result.now c.in-Block.is c.items.ensures) c.put_steps.ensures.counter

pub put_step-returns-in-Block-clause-turn : goal.put_step-returns-in-Block-clause-turn
put_step-returns-in-Block-clause-turn t c =
    rw (block_loops c.args.step.now c.in-Block.body c.items.result.now c.in-Block.is c.items.ensures) c.put_steps.ensures.turn

pub put_step-returns-in-Block-clause-deep : goal.put_step-returns-in-Block-clause-deep
put_step-returns-in-Block-clause-deep t c =
    rw (block_deep c.args.step.now c.in-Block.body c.items.result.now c.in-Block.is c.items.ensures) c.put_steps.ensures.deep

pub put_steps-put_step-requires : goal.put_steps-put_step-requires
put_steps-put_step-requires t c =
    let left = steps_drop c.args.steps.now c.loop-step.step-index c.step-item.result c.loop-step-test.true c.step-item.is in
    let small = small_at c.args.task.now.callees.now c.args.steps.now c.loop-step.step-index c.step-item.result c.loop-step-test.true c.step-item.is c.requires.small in
    let whiles : list_whiles (drop c.loop-step.step-index c.args.steps.now) ≡ whiles_of c.step-item.result + list_whiles (drop (c.loop-step.step-index + 1) c.args.steps.now) = ap list_whiles left in
    let loops : list_loops (drop c.loop-step.step-index c.args.steps.now) ≡ loops_of c.step-item.result + list_loops (drop (c.loop-step.step-index + 1) c.args.steps.now) = ap list_loops left in
    let light = weight-at c.args.steps.now c.loop-step.step-index c.step-item.result c.loop-step-test.true c.step-item.is in (
      omega (arith, light, c.decreases),
      (
        c.requires.first,
        (
          small,
          (omega (arith, whiles, c.loop-step.invariant.counter, c.requires.counters), omega (arith, loops, c.loop-step.invariant.turn, c.requires.turns)),
        ),
      ),
    )

pub put_steps-loop-step-preserved : goal.put_steps-loop-step-preserved
put_steps-loop-step-preserved t c =
    let parts = parts_in c.args.task.now in
    let turns = turns_in c.args.task.now in
    let s = c.step-item.result in
    let rest = drop (c.loop-step.step-index + 1) c.args.steps.now in
    let old = pieces_of (items_of c.loop-step.pieces) in
    let n = c.loop-step.numbers.counter in
    let m = c.loop-step.numbers.turn in
    let one = code_at parts turns n m s in
    let left = steps_drop c.args.steps.now c.loop-step.step-index s c.loop-step-test.true c.step-item.is in
    let whiles : list_whiles (drop c.loop-step.step-index c.args.steps.now) ≡ whiles_of s + list_whiles rest = ap list_whiles left in
    let loops : list_loops (drop c.loop-step.step-index c.args.steps.now) ≡ loops_of s + list_loops rest = ap list_loops left in
    record {
      pieces =
          ap (λ p. followed p (list_code parts turns c.put_step.new.numbers.counter c.put_step.new.numbers.turn rest)) c.in_ok-put_step.ensures.pieces
          ∙ ap (λ k. followed (followed old one) (list_code parts turns k c.put_step.new.numbers.turn rest)) c.in_ok-put_step.ensures.counter
          ∙ ap (λ k. followed (followed old one) (list_code parts turns (n + whiles_of s) k rest)) c.in_ok-put_step.ensures.turn
          ∙ followed_append old one (list_code parts turns (n + whiles_of s) (m + loops_of s) rest)
          ∙ ap (λ xs. followed old (list_code parts turns n m xs)) (sym left)
          ∙ c.loop-step.invariant.pieces;
      counter = omega (arith, c.in_ok-put_step.ensures.counter, whiles, c.loop-step.invariant.counter);
      turn = omega (arith, c.in_ok-put_step.ensures.turn, loops, c.loop-step.invariant.turn);
      deep =
          ap (λ o. first_place_of o (list_deep rest)) (sym c.in_ok-put_step.ensures.deep)
          ∙ ap list_deep (sym left)
          ∙ c.loop-step.invariant.deep;
    }

pub put_steps-returns-clause-pieces : goal.put_steps-returns-clause-pieces
put_steps-returns-clause-pieces t c =
    sym (followed_none (pieces_of (items_of c.loop-step.pieces)))
    ∙ ap (λ xs. followed (pieces_of (items_of c.loop-step.pieces)) (list_code (parts_in c.args.task.now) (turns_in c.args.task.now) c.loop-step.numbers.counter c.loop-step.numbers.turn xs))
    (sym (drop_end c.args.steps.now c.loop-step.step-index c.loop-step-test.false))
    ∙ c.loop-step.invariant.pieces
