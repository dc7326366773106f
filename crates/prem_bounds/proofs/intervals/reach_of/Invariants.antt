use Rattle.std.proofs.Common.{map, length}
use Rattle.prem_layout.specs.Stretch.Sums.{sums_at}
use Rattle.prem_split.specs.PlanOf.{plan_of}
use Rattle.prem_bounds.specs.TableOf.{listed}
use Rattle.prem_bounds.specs.ToldSums.{TellsSums}
use Rattle.prem_bounds.proofs.Reaches.{job_known}
use Rattle.prem_bounds.proofs.intervals.reach_of.Given as goal

-- the functions before n are told
abbrev pub invariant-loop-n : goal.invariant-loop-n
invariant-loop-n l = TellsSums 256 l.functions (sums_at (job_known l.p (map plan_of l.plans) (listed l.code) (length (listed l.code)) l.n))
