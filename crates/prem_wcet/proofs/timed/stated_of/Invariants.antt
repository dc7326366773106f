use Rattle.std.proofs.Common.{◌≡◌, ◌++◌, map, drop}
use Rattle.prem_layout.specs.Plans.{Plan}
use Rattle.prem_split.specs.PlanOf.{plan_of}
use Rattle.prem_wcet.proofs.timed.stated_of.Given as goal

abbrev pub invariant-loop-plan : goal.invariant-loop-plan
invariant-loop-plan l = l.lengths.items ++ map (λ (plan : Plan). plan.stated) (map plan_of (drop l.plan-index l.plans)) ≡ map (λ (plan : Plan). plan.stated) (map plan_of l.plans)
