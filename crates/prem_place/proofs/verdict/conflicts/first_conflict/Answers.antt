use Rattle.std.proofs.Common.{◌≡◌, ap, sym, ◌∙◌, arith, length, map}
use Rattle.std.proofs.Common.{Some, None}
use Rattle.prem_list.specs.Sequence.{items_of}
use Rattle.prem_layout.specs.Rules.{over_tasks, conflict_rules}
use Rattle.prem_bounds.specs.Facts.Clashes.{clash_of}
use Rattle.prem_place.specs.Placed.PlacedOf.{placed_of, lines_of, IsPlacedTask}
use Rattle.prem_place.specs.declared.verdict.verdict.Verdict.TheVariants.{Conflict}
use Rattle.prem_place.proofs.VerdictLemmas.Stages.{passes_at, all_at, longs_same, both_at}
use Rattle.prem_place.proofs.VerdictLemmas.Turns.{lines_long, clash_at, clash_within, seven_breaks, seven_keeps}
use Rattle.prem_place.proofs.VerdictLemmas.Blames.{has_function, blame_is}
use Rattle.prem_place.proofs.verdict.conflicts.first_conflict.Goals as goal

pub first_clash-requires-clause-long : goal.first_clash-requires-clause-long
first_clash-requires-clause-long c =
    let p = c.args.p.now in
    let t = c.index-tasks-n.result in
    let lt = c.loop-n-test.true in
    let long = longs_same (λ v. v.items) (lines_of p) c.args.lines.now c.args.tasks.now c.requires.lines in
    let line : c.deref.result.now ≡ lines_of p t =
    c.deref.ensures.value ∙ both_at (λ v. v.items) (lines_of p) c.args.lines.now c.args.tasks.now c.loop-n.n c.index-lines-n.result t c.requires.lines
    (omega (arith, lt, long)) lt c.index-lines-n.is c.index-tasks-n.is in
    let plans : c.items.result.now ≡ items_of t.plans = c.items.ensures ∙ ap (λ q. items_of q.plans) (sym c.index-tasks-n.is) in
    ap length line ∙ lines_long p t c.items.result.now plans

pub returns-in-Some-clause-first : goal.returns-in-Some-clause-first
returns-in-Some-clause-first c =
    let p = c.args.p.now in
    let t = c.index-tasks-n.result in
    let lt = c.loop-n-test.true in
    let long = longs_same (λ v. v.items) (lines_of p) c.args.lines.now c.args.tasks.now c.requires.lines in
    let line : c.deref.result.now ≡ lines_of p t =
    c.deref.ensures.value ∙ both_at (λ v. v.items) (lines_of p) c.args.lines.now c.args.tasks.now c.loop-n.n c.index-lines-n.result t c.requires.lines
    (omega (arith, lt, long)) lt c.index-lines-n.is c.index-tasks-n.is in
    let plans : c.items.result.now ≡ items_of t.plans = c.items.ensures ∙ ap (λ q. items_of q.plans) (sym c.index-tasks-n.is) in
    blame_is (conflict_rules p) c.args.tasks.now c.loop-n.n t (Conflict c.in-Some.clash) (over_tasks (conflict_rules p) (map placed_of c.args.tasks.now)) lt c.index-tasks-n.is
    (seven_breaks p t c.deref.result.now c.in-Some.clash line
    (clash_at p t c.items.result.now c.deref.result.now (clash_of (Some c.in-Some.clash)) plans c.in-Some.ensures.clash) c.in-Some.ensures.ways)
    c.loop-n.invariant

pub returns-in-Some-clause-there : goal.returns-in-Some-clause-there
returns-in-Some-clause-there c =
    let p = c.args.p.now in
    let t = c.index-tasks-n.result in
    let lt = c.loop-n-test.true in
    let plans : c.items.result.now ≡ items_of t.plans = c.items.ensures ∙ ap (λ q. items_of q.plans) (sym c.index-tasks-n.is) in
    has_function c.args.tasks.now c.loop-n.n c.in-Some.clash.function t lt c.index-tasks-n.is
    (clash_within p t c.deref.result.now c.in-Some.clash (all_at (IsPlacedTask p) c.args.tasks.now c.loop-n.n t c.requires.tasks lt c.index-tasks-n.is)
    (clash_at p t c.items.result.now c.deref.result.now (clash_of (Some c.in-Some.clash)) plans c.in-Some.ensures.clash))

pub loop-n-preserved : goal.loop-n-preserved
loop-n-preserved c =
    let p = c.args.p.now in
    let t = c.index-tasks-n.result in
    let lt = c.loop-n-test.true in
    let long = longs_same (λ v. v.items) (lines_of p) c.args.lines.now c.args.tasks.now c.requires.lines in
    let line : c.deref.result.now ≡ lines_of p t =
    c.deref.ensures.value ∙ both_at (λ v. v.items) (lines_of p) c.args.lines.now c.args.tasks.now c.loop-n.n c.index-lines-n.result t c.requires.lines
    (omega (arith, lt, long)) lt c.index-lines-n.is c.index-tasks-n.is in
    let plans : c.items.result.now ≡ items_of t.plans = c.items.ensures ∙ ap (λ q. items_of q.plans) (sym c.index-tasks-n.is) in
    passes_at (conflict_rules p) c.args.tasks.now c.loop-n.n t (over_tasks (conflict_rules p) (map placed_of c.args.tasks.now)) lt c.index-tasks-n.is
    (seven_keeps p t c.deref.result.now line (clash_at p t c.items.result.now c.deref.result.now None plans c.in_default.ensures.clash)) c.loop-n.invariant
