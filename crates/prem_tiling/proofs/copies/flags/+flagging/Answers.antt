use Rattle.prem_tiling.proofs.Prelude.{assigned_flags, ap, sym, ◌∙◌}
use Rattle.prem_tiling.proofs.CopiesLemmas.Blocks.{block_is}
use Rattle.prem_tiling.proofs.copies.flags.+flagging.Goals as goal

pub flag_assigned-returns-in-Block : goal.flag_assigned-returns-in-Block
flag_assigned-returns-in-Block t c =
    c.flag_all_assigned.ensures ∙ ap (assigned_flags c.args.names.now c.args.flags.now) (sym (block_is c.args.stmt.now c.in-Block.at c.in-Block.body c.items.result.now c.in-Block.is c.items.ensures))
