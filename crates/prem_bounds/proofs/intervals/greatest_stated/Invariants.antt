use Rattle.std.proofs.Common.{◌≡◌, ◌<◌, ◌^◌, max, map, drop}
use Rattle.prem_layout.specs.Stretch.Paths.{greatest_stated}
use Rattle.prem_split.specs.PlanOf.{plan_of}
use Rattle.prem_bounds.proofs.intervals.greatest_stated.Given as goal

-- the greatest so far and that of the rest are that of all
abbrev pub invariant-loop-plan : goal.invariant-loop-plan
invariant-loop-plan l = record {
  rest : max l.greatest (greatest_stated (map plan_of (drop l.plan-index l.plans))) ≡ greatest_stated (map plan_of l.plans);
  small : l.greatest < 2 ^ 32;
}
