use Rattle.prem_tiling.proofs.Prelude.{has_call, ap, sym, ◌∙◌}
use Rattle.prem_tiling.proofs.CopiesLemmas.Blocks.{block_is}
use Rattle.prem_tiling.proofs.copies.shape.+calling.Goals as goal

pub has_call-returns-in-Block : goal.has_call-returns-in-Block
has_call-returns-in-Block t c =
    c.have_call.ensures ∙ ap has_call (sym (block_is c.args.stmt.now c.in-Block.at c.in-Block.body c.items.result.now c.in-Block.is c.items.ensures))
