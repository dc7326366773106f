use Rattle.std.proofs.Common.{sym, ◌∙◌}
use Rattle.prem_asm.specs.PiecesOf.{pieces_of}
use Rattle.prem_wcet.proofs.BlockCuts.{block_behind}
use Rattle.prem_wcet.proofs.outline.+behind.Goals as goal

pub behind_step-returns-in-Block : goal.behind_step-returns-in-Block
behind_step-returns-in-Block t c =
    c.behind_steps.ensures ∙ sym (block_behind c.args.target (pieces_of c.args.code.now) c.args.step.now c.in-Block.body c.items.result.now c.in-Block.is c.items.ensures)
