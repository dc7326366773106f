use Rattle.std.proofs.Common.{map, arith, ap, sym, ◌∙◌}
use Rattle.prem_layout.specs.Rules.{over_tasks, length_rules}
use Rattle.prem_place.specs.Placed.PlacedOf.{placed_of}
use Rattle.prem_place.proofs.VerdictLemmas.BoundTurns.{told_long, short_first, short_there, short_passes}
use Rattle.prem_place.proofs.verdict.lengths.first_short_interval.Goals as goal

pub bounds-bounds-n : goal.bounds-bounds-n
bounds-bounds-n c = omega (arith, c.loop-n-test.true, told_long c.args.p.now c.args.tasks.now c.args.bounds.now 0 c.requires.bounds)

pub returns-in-Some-clause-first : goal.returns-in-Some-clause-first
returns-in-Some-clause-first c =
    short_first c.args.p.now c.args.tasks.now c.args.bounds.now c.loop-n.n c.index-bounds-n.result c.deref.result.now c.in-Some.fact
    (over_tasks (length_rules c.args.p.now) (map placed_of c.args.tasks.now)) c.loop-n-test.true c.requires.bounds c.index-bounds-n.is
    (c.deref.ensures.value ∙ ap (λ b. b.facts.items) (sym c.index-bounds-n.is))
    c.in-Some.ensures c.loop-n.invariant

pub returns-in-Some-clause-there : goal.returns-in-Some-clause-there
returns-in-Some-clause-there c =
    short_there c.args.p.now c.args.tasks.now c.args.bounds.now c.loop-n.n c.index-bounds-n.result c.deref.result.now c.in-Some.fact c.requires.tasks
    c.loop-n-test.true c.requires.bounds c.index-bounds-n.is (c.deref.ensures.value ∙ ap (λ b. b.facts.items) (sym c.index-bounds-n.is)) c.in-Some.ensures

pub loop-n-preserved : goal.loop-n-preserved
loop-n-preserved c =
    short_passes c.args.p.now c.args.tasks.now c.args.bounds.now c.loop-n.n c.index-bounds-n.result c.deref.result.now
    (over_tasks (length_rules c.args.p.now) (map placed_of c.args.tasks.now)) c.loop-n-test.true c.requires.bounds c.index-bounds-n.is
    (c.deref.ensures.value ∙ ap (λ b. b.facts.items) (sym c.index-bounds-n.is)) c.in_default.ensures
    c.loop-n.invariant
