use Rattle.prem_profile.proofs.LinesLemmas.Blocks.{block_lines}
use Rattle.prem_profile.proofs.lines.step.+steps.Goals as goal

pub push_step-returns-in-Block : goal.push_step-returns-in-Block
push_step-returns-in-Block t c =
    rw (block_lines c.args.target c.args.step.now c.in-Block.body c.items.result.now c.in-Block.is c.items.ensures) c.push_steps.ensures
