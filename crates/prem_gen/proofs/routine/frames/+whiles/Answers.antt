use Rattle.std.proofs.Common.{ap, sym, ◌∙◌, min}
use Rattle.prem_gen.specs.Frame.FrameOf.{most}
use Rattle.prem_gen.proofs.RoutineLemmas.Nodes.{block_whiles}
use Rattle.prem_gen.proofs.routine.frames.+whiles.Goals as goal

pub whiles-returns-in-Block : goal.whiles-returns-in-Block
whiles-returns-in-Block t c =
    c.whiles_among.ensures
    ∙ ap (λ n. min n most) (sym (block_whiles c.args.step.now c.in-Block.body c.items.result.now c.in-Block.is c.items.ensures))
