use Rattle.std.proofs.Common.{ap, sym, ◌∙◌, min}
use Rattle.prem_gen.specs.Codes.Loops.{most_loops}
use Rattle.prem_gen.proofs.RoutineLemmas.Nodes.{block_loops}
use Rattle.prem_gen.proofs.codes.loops.+loops.Goals as goal

pub loops-returns-in-Block : goal.loops-returns-in-Block
loops-returns-in-Block t c =
    c.loops_among.ensures
    ∙ ap (λ n. min n most_loops) (sym (block_loops c.args.step.now c.in-Block.body c.items.result.now c.in-Block.is c.items.ensures))
