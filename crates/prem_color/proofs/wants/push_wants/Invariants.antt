use Rattle.std.specs.List.{AllByRecursion}
use Rattle.std.proofs.Common.{◌≡◌, ◌++◌, map, drop}
use Rattle.prem_list.specs.Sequence.{items_of}
use Rattle.prem_split.specs.PlanOf.{plan_of}
use Rattle.prem_color.specs.Standing.{PlanStands}
use Rattle.prem_color.specs.WantOf.{shape_in, want_of}
use Rattle.prem_color.specs.Wants.{plan_want}
use Rattle.prem_color.proofs.wants.push_wants.Given as goal

abbrev pub invariant-loop-plan : goal.invariant-loop-plan
invariant-loop-plan l =
    record {
      rest : map want_of (items_of l.wants) ++ map (plan_want l.sizes (shape_in l.shape) l.task l.first) (map plan_of (drop l.plan-index l.plans))
          ≡ map want_of (items_of l.initial.wants) ++ map (plan_want l.sizes (shape_in l.shape) l.task l.first) (map plan_of l.plans);
      there : AllByRecursion (PlanStands l.sizes (shape_in l.shape) l.first) (map plan_of (drop l.plan-index l.plans));
    }
