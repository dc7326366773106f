use Rattle.std.proofs.Common.{◌≡◌, ◌++◌, map, drop}
use Rattle.prem_analysis.proofs.Prelude.{called}
use Rattle.prem_analysis.proofs.marks.calls.callee_table.Given as goal

abbrev pub invariant-loop-f : goal.invariant-loop-f
invariant-loop-f l = map (λ cs. cs.items) l.table.items ++ map (λ f. called f.body) (drop l.f-index l.fs) ≡ map (λ f. called f.body) l.fs
