use Rattle.prem_asm.specs.PiecesOf.{pieces_of}
use Rattle.prem_list.specs.Sequence.{items_of}
use Rattle.prem_wcet.specs.PartsOf.{cut_list, joined, parts_of}
use Rattle.prem_wcet.proofs.BlockCuts.{block_cut, cut_end, cut_put}
use Rattle.prem_wcet.proofs.outline.+outlines.Goals as goal

pub put_step-returns-in-Block : goal.put_step-returns-in-Block
put_step-returns-in-Block t c =
    rw (block_cut c.args.target (pieces_of c.args.code.now) c.args.step.now c.in-Block.body c.items.result.now c.in-Block.is c.items.ensures) c.put_steps.ensures

pub put_steps-loop-step-preserved : goal.put_steps-loop-step-preserved
put_steps-loop-step-preserved t c =
    cut_put c.args.target c.args.steps.now c.loop-step.step-index c.step-item.result (pieces_of c.loop-step.rest.now) (pieces_of c.behind_step-rest.result.now) (parts_of (items_of c.loop-step.parts))
    (parts_of (items_of c.put_step.new.parts))
    (joined (parts_of (items_of c.args.parts.now)) (cut_list c.args.target c.args.steps.now (pieces_of c.args.code.now)))
    c.loop-step-test.true c.step-item.is
    c.in_ok-put_step.ensures c.behind_step-rest.ensures c.loop-step.invariant

pub put_steps-returns : goal.put_steps-returns
put_steps-returns t c =
    cut_end c.args.target c.args.steps.now c.loop-step.step-index (pieces_of c.loop-step.rest.now) (parts_of (items_of c.loop-step.parts))
    (joined (parts_of (items_of c.args.parts.now)) (cut_list c.args.target c.args.steps.now (pieces_of c.args.code.now))) c.loop-step-test.false c.loop-step.invariant
