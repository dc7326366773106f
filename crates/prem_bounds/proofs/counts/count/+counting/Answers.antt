use Rattle.std.proofs.Common.{ap, ◌∙◌, drop, slice_index}
use Rattle.prem_bounds.specs.Counts.Count.{clipped}
use Rattle.prem_bounds.proofs.CountsLemmas.StepCounts.{block_most, block_loops}
use Rattle.prem_bounds.proofs.counts.count.+counting.Goals as goal

pub count_of-returns-in-Block-clause-count : goal.count_of-returns-in-Block-clause-count
count_of-returns-in-Block-clause-count t c =
    c.count_in.ensures.count
    ∙ ap clipped (block_most c.args.output (slice_index c.args.calls.now) c.args.turns.now c.args.step.now c.in-Block.body c.items.result.now c.in-Block.is c.items.ensures)

pub count_of-returns-in-Block-clause-rest : goal.count_of-returns-in-Block-clause-rest
count_of-returns-in-Block-clause-rest t c =
    c.count_in.ensures.rest ∙ ap (λ k. drop k c.args.turns.now) (block_loops c.args.step.now c.in-Block.body c.items.result.now c.in-Block.is c.items.ensures)
