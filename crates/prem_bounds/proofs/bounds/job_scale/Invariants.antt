use Rattle.std.proofs.Common.{map, length}
use Rattle.prem_layout.specs.Bounds.{weight_at}
use Rattle.prem_split.specs.PlanOf.{plan_of}
use Rattle.prem_bounds.specs.TableOf.{listed}
use Rattle.prem_bounds.specs.Told.{Tells}
use Rattle.prem_bounds.proofs.Told.{job_known}
use Rattle.prem_bounds.proofs.bounds.job_scale.Given as goal

-- the functions before n are told
abbrev pub invariant-loop-n : goal.invariant-loop-n
invariant-loop-n l = Tells 256 l.functions (weight_at (job_known l.p (map plan_of l.plans) (listed l.code) (length (listed l.code)) l.n))
