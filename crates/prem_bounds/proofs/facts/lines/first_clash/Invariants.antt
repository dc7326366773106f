use Rattle.std.proofs.Common.{◌≡◌, map, drop}
use Rattle.prem_split.specs.PlanOf.{plan_of}
use Rattle.prem_bounds.specs.Facts.Clashes.{first_clash}
use Rattle.prem_bounds.proofs.facts.lines.first_clash.Given as goal

abbrev pub invariant-loop-k : goal.invariant-loop-k
invariant-loop-k l = first_clash l.p (map plan_of (drop l.k l.plans)) (drop l.k l.lines) ≡ first_clash l.p (map plan_of l.plans) l.lines
