use Rattle.std.proofs.Common.{sym, ◌∙◌, subst, length, map}
use Rattle.prem_layout.specs.Image.{with_tasks}
use Rattle.prem_place.specs.Placed.PlacedOf.{placed_of}
use Rattle.prem_place.specs.Imaging.Standing.{Fits}
use Rattle.prem_place.proofs.ImagingLemmas.Fitting.{fits_at, fits_next, content_turn}
use Rattle.prem_place.proofs.imaging.put_tasks.Goals as goal

pub put_task-requires : goal.put_task-requires
put_task-requires c =
    let t = c.index-tasks-n.result in
    let here = fits_at (λ bs. bs.items) (length c.args.content.now)
    c.args.tasks.now c.args.blocks.now c.loop-n.n t c.index-blocks-n.result c.loop-n.invariant.fits c.loop-n-test.true c.index-tasks-n.is
    c.index-blocks-n.is in
    subst (λ k. Fits k t c.deref.result.now) (sym c.loop-n.invariant.long) (subst (λ bs. Fits (length c.args.content.now) t bs) (sym c.deref.ensures.value) here.0)

pub loop-n-preserved : goal.loop-n-preserved
loop-n-preserved c =
    let t = c.index-tasks-n.result in
    let here = fits_at (λ bs. bs.items) (length c.args.content.now)
    c.args.tasks.now c.args.blocks.now c.loop-n.n t c.index-blocks-n.result c.loop-n.invariant.fits c.loop-n-test.true c.index-tasks-n.is
    c.index-blocks-n.is in
    record {
      rest = content_turn c.args.tasks.now c.loop-n.n t c.loop-n.content c.put_task.new.content
          (with_tasks (map placed_of c.args.tasks.now) c.args.content.now)
          c.loop-n-test.true c.index-tasks-n.is c.in_ok-put_task.ensures.content c.loop-n.invariant.rest;
      fits = fits_next (λ bs. bs.items) (length c.args.content.now) c.args.tasks.now c.args.blocks.now c.loop-n.n here.1;
      long = c.in_ok-put_task.ensures.long ∙ c.loop-n.invariant.long;
    }
