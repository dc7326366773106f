use Rattle.std.proofs.Common.{◌≡◌}
use Rattle.prem_analysis.proofs.Prelude.{range_with_len}
use Rattle.prem_analysis.proofs.ranging.saves.all_below.Given as goal

abbrev pub invariant-loop-k : goal.invariant-loop-k
invariant-loop-k l = l.all.items ≡ range_with_len 0 l.k
