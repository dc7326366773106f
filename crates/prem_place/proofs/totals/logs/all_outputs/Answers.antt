use Rattle.std.specs.Prelude.{slice_index}
use Rattle.std.proofs.Common.{map, ap, ◌∙◌}
use Rattle.prem_tree.specs.Resolve.ResolvedOf.{resolved_of}
use Rattle.prem_bounds.specs.Counts.Count.{clipped}
use Rattle.prem_layout.specs.Counts.{outputs_of}
use Rattle.prem_layout.specs.Rules.{total_of}
use Rattle.prem_place.specs.Placed.PlacedOf.{coded_of}
use Rattle.prem_place.proofs.TotalsLemmas.Totals.{total_turn, total_end, clipped_small}
use Rattle.prem_place.proofs.totals.logs.all_outputs.Goals as goal

pub loop-task-preserved : goal.loop-task-preserved
loop-task-preserved c =
    record {
      rest = total_turn outputs_of c.args.tasks.now c.loop-task.task-index c.task-item.result c.loop-task.sum c.plus-sum.result c.in_ok-count.count
          c.times.result _ c.loop-task-test.true c.task-item.is
          (c.in_ok-count.ensures ∙ ap (λ ts. clipped (outputs_of (resolved_of (slice_index ts) c.task-item.result.program))) c.deref.ensures.value) c.times.ensures c.plus-sum.ensures c.loop-task.invariant.rest;
      small = clipped_small c.plus-sum.result _ c.plus-sum.ensures;
    }

pub returns : goal.returns
returns c = total_end outputs_of c.args.tasks.now c.loop-task.task-index c.loop-task.sum (total_of outputs_of (map coded_of c.args.tasks.now))
    c.loop-task-test.false c.loop-task.invariant.small c.loop-task.invariant.rest
