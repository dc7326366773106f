use Rattle.std.specs.List.{AllByRecursion}
use Rattle.std.proofs.Common.{◌≡◌, ◌++◌, map, drop}
use Rattle.prem_layout.specs.Footprint.{footprint_of}
use Rattle.prem_split.specs.PlanOf.{plan_of}
use Rattle.prem_foot.specs.PlacesOf.{IsPlanAt}
use Rattle.prem_bounds.proofs.facts.lines.footprints.Given as goal

abbrev pub invariant-loop-plan : goal.invariant-loop-plan
invariant-loop-plan l =
    record {
      rest : l.all.items ++ map (footprint_of l.p.line l.t) (map plan_of (drop l.plan-index l.plans)) ≡ map (footprint_of l.p.line l.t) (map plan_of l.plans);
      within : AllByRecursion (IsPlanAt l.t) (map plan_of (drop l.plan-index l.plans));
    }
