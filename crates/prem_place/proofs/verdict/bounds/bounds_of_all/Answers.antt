use Rattle.std.proofs.Common.{◌≡◌, sym, ◌∙◌, arith, map, Some}
use Rattle.prem_layout.specs.Rules.{over_tasks, bound_rules}
use Rattle.prem_place.specs.Placed.PlacedOf.{placed_of, lines_of}
use Rattle.prem_place.specs.Verdict.Told.{large_in, told_from}
use Rattle.prem_place.specs.declared.verdict.verdict.Verdict.TheVariants.{BoundTooLarge}
use Rattle.prem_place.proofs.VerdictLemmas.Stages.{passes_at, longs_same, both_at}
use Rattle.prem_place.proofs.VerdictLemmas.Blames.{has_function, blame_is}
use Rattle.prem_place.proofs.VerdictLemmas.BoundTurns.{large_by, told_by, eight_breaks, eight_keeps, large_within, told_turn}
use Rattle.prem_place.proofs.verdict.bounds.bounds_of_all.Goals as goal

pub task_bounds-requires-clause-lines : goal.task_bounds-requires-clause-lines
task_bounds-requires-clause-lines c =
    let p = c.args.p.now in
    let lt = c.loop-n-test.true in
    let long = longs_same (λ v. v.items) (lines_of p) c.args.lines.now c.args.tasks.now c.requires.lines in
    c.deref.ensures.value
    ∙ both_at (λ v. v.items) (lines_of p) c.args.lines.now c.args.tasks.now c.loop-n.n c.index-lines-n.result c.index-tasks-n.result c.requires.lines
    (omega (arith, lt, long)) lt c.index-lines-n.is c.index-tasks-n.is

pub returns-in-Err-clause-ends : goal.returns-in-Err-clause-ends
returns-in-Err-clause-ends c =
    let p = c.args.p.now in
    let t = c.index-tasks-n.result in
    let large : large_in p (placed_of t) ≡ Some c.in-Err.f = large_by p t c.loop-n.n c.in_ok-bounds.field-0 c.in-Err.f c.in-Err.is c.in_ok-bounds.ensures in (
      sym (blame_is (bound_rules p) c.args.tasks.now c.loop-n.n t (BoundTooLarge c.in-Err.f)
          (over_tasks (bound_rules p) (map placed_of c.args.tasks.now)) c.loop-n-test.true c.index-tasks-n.is (eight_breaks p t c.in-Err.f large)
          c.loop-n.invariant.rest),
      has_function c.args.tasks.now c.loop-n.n c.in-Err.f t c.loop-n-test.true c.index-tasks-n.is (large_within p t c.in-Err.f large),
    )

pub loop-n-preserved : goal.loop-n-preserved
loop-n-preserved c =
    let p = c.args.p.now in
    let t = c.index-tasks-n.result in
    let told = told_by p t c.loop-n.n c.in_ok-bounds.field-0 c.in-Ok.bounds c.in-Ok.is c.in_ok-bounds.ensures in
    record {
      rest = passes_at (bound_rules p) c.args.tasks.now c.loop-n.n t (over_tasks (bound_rules p) (map placed_of c.args.tasks.now))
          c.loop-n-test.true c.index-tasks-n.is (eight_keeps p t told.1) c.loop-n.invariant.rest;
      told = told_turn p c.args.tasks.now c.loop-n.n t c.loop-n.all.items _ c.in-Ok.bounds (told_from p 0 (map placed_of c.args.tasks.now))
          c.loop-n-test.true c.index-tasks-n.is told.0 c.in_ok-push-in-Ok.ensures.items c.loop-n.invariant.told;
    }
