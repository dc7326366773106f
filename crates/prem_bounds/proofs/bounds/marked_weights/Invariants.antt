use Rattle.std.proofs.Common.{map, take}
use Rattle.prem_layout.specs.Bounds.{marked_weights}
use Rattle.prem_split.specs.PlanOf.{plan_of}
use Rattle.prem_bounds.specs.Told.{Tells}
use Rattle.prem_bounds.proofs.bounds.marked_weights.Given as goal

-- those before k are told
abbrev pub invariant-loop-k : goal.invariant-loop-k
invariant-loop-k l = Tells 256 l.weights (λ j. marked_weights l.p (take l.k (map plan_of l.plans)) j)
