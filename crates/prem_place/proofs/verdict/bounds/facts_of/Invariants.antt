use Rattle.std.proofs.Common.{◌≡◌, ◌++◌, map, drop, filter}
use Rattle.prem_layout.specs.Facts.{interval_facts_from, interval_facts}
use Rattle.prem_split.specs.PlanOf.{plan_of}
use Rattle.prem_bounds.specs.Facts.Laws.{is_large}
use Rattle.prem_place.specs.Placed.PlacedOf.{placed_of}
use Rattle.prem_place.specs.Verdict.Told.{is_small, with_task, numbered}
use Rattle.prem_place.proofs.verdict.bounds.facts_of.Given as goal

abbrev pub invariant-loop-k : goal.invariant-loop-k
invariant-loop-k l =
    record {
      facts : map numbered l.facts.items
          ++ map (with_task l.task) (filter is_small (interval_facts_from l.p (placed_of l.t) l.k (map plan_of (drop l.k l.plans))))
          ≡ map (with_task l.task) (filter is_small (interval_facts l.p (placed_of l.t)));
      large : l.large.items ++ map is_large (interval_facts_from l.p (placed_of l.t) l.k (map plan_of (drop l.k l.plans))) ≡ map is_large (interval_facts l.p (placed_of l.t));
    }
