use Rattle.std.specs.Vec.Iter.{into_iter_items}
use Rattle.std.proofs.Common.{◌≡◌, sym, ◌∙◌, length, map}
use Rattle.prem_list.specs.Sequence.{items_of}
use Rattle.prem_place.specs.Verdict.Told.{bounds_of, numbered}
use Rattle.prem_compile.proofs.TellingLemmas.Flattened.{facts_are, facts_end, jobs_are, jobs_end}
use Rattle.prem_compile.proofs.telling.told.told_bounds.Goals as goal

pub returns-clause-intervals : goal.returns-clause-intervals
returns-clause-intervals c =
    let left = into_iter_items c.loop-bounds.bounds-iterator in
    let none : length left ≡ 0 = sym c.loop-bounds.bounds-iterator.rest.ok.0 ∙ c.in-None.ensures.steps.0 in
    λ p placed e. facts_are p placed (map bounds_of c.args.all.items) (map numbered (items_of c.loop-bounds.intervals)) e (facts_end _ _ left none c.loop-bounds.invariant.facts)

pub returns-clause-jobs : goal.returns-clause-jobs
returns-clause-jobs c =
    let left = into_iter_items c.loop-bounds.bounds-iterator in
    let none : length left ≡ 0 = sym c.loop-bounds.bounds-iterator.rest.ok.0 ∙ c.in-None.ensures.steps.0 in
    λ p placed e. jobs_are p placed (map bounds_of c.args.all.items) (items_of c.loop-bounds.jobs) e (jobs_end _ _ left none c.loop-bounds.invariant.jobs)
