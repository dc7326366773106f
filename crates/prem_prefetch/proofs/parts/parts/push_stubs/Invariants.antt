use Rattle.std.specs.List.{AllByRecursion}
use Rattle.std.proofs.Common.{◌≡◌, ◌++◌, map, drop}
use Rattle.prem_layout.specs.Parts.{stub_passes, stub_parts}
use Rattle.prem_split.specs.PlanOf.{plan_of}
use Rattle.prem_prefetch.specs.Parts.Parts.{IsShortPlan}
use Rattle.prem_prefetch.proofs.parts.parts.push_stubs.Given as goal

abbrev pub invariant-loop-plan : goal.invariant-loop-plan
invariant-loop-plan l =
    record {
      rest : l.parts.items ++ stub_parts (stub_passes l.p) l.task (map plan_of (drop l.plan-index l.plans)) ≡ l.initial.parts.items ++ stub_parts (stub_passes l.p) l.task (map plan_of l.plans);
      short : AllByRecursion IsShortPlan (map plan_of (drop l.plan-index l.plans));
    }
