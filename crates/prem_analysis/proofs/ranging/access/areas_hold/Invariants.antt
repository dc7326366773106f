use Rattle.std.proofs.Common.{◌≡◌, map, drop}
use Rattle.prem_analysis.proofs.Prelude.{area_of, span_of, areas_hold}
use Rattle.prem_analysis.proofs.ranging.access.areas_hold.Given as goal

abbrev pub invariant-loop-a : goal.invariant-loop-a
invariant-loop-a l = areas_hold l.g (span_of l.r) (map area_of l.areas) ≡ areas_hold l.g (span_of l.r) (map area_of (drop l.a-index l.areas))
