use Rattle.std.proofs.Common.{ap, sym, ◌∙◌}
use Rattle.prem_syntax.specs.Name.{name_bytes}
use Rattle.prem_syntax.specs.Breaches.{assigns}
use Rattle.prem_check.proofs.Blocks.{block_is}
use Rattle.prem_check.proofs.loops.+assigning.Goals as goal

pub assigns-returns-in-Block : goal.assigns-returns-in-Block
assigns-returns-in-Block t c =
    c.assigns_within.ensures
    ∙ ap (assigns (name_bytes c.args.name.now)) (sym (block_is c.args.stmt.now c.in-Block.at c.in-Block.body c.items.result.now c.in-Block.is c.items.ensures))
