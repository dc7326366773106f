use Rattle.std.specs.List.{AllByRecursion}
use Rattle.std.proofs.Common.{◌≡◌, ◌++◌, map, drop}
use Rattle.prem_list.specs.Sequence.{items_of}
use Rattle.prem_layout.specs.Parts.{stub_passes}
use Rattle.prem_layout.specs.Stubs.{stub_of}
use Rattle.prem_split.specs.PlanOf.{plan_of}
use Rattle.prem_foot.specs.PlacesOf.{IsPlanAt}
use Rattle.prem_bounds.specs.TableOf.{listed}
use Rattle.prem_place.proofs.placing.place.stubs_of.Given as goal

abbrev pub invariant-loop-plan : goal.invariant-loop-plan
invariant-loop-plan l =
    record {
      rest : listed (items_of l.stubs) ++ map (stub_of (stub_passes l.p) l.p.line l.places) (map plan_of (drop l.plan-index l.plans))
          ≡ map (stub_of (stub_passes l.p) l.p.line l.places) (map plan_of l.plans);
      within : AllByRecursion (IsPlanAt l.places) (map plan_of (drop l.plan-index l.plans));
    }
