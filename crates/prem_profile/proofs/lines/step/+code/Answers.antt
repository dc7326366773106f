use Rattle.std.proofs.Common.{sym, ◌∙◌}
use Rattle.prem_profile.proofs.LinesLemmas.Blocks.{block_has}
use Rattle.prem_profile.proofs.lines.step.+code.Goals as goal

pub has_code-returns-in-Block : goal.has_code-returns-in-Block
has_code-returns-in-Block t c = c.any_has_code.ensures ∙ sym (block_has c.args.step.now c.in-Block.body c.items.result.now c.in-Block.is c.items.ensures)
