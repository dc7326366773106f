use Rattle.std.proofs.Common.{◌≡◌, ◌++◌, drop}
use Rattle.prem_analysis.proofs.Prelude.{list_called}
use Rattle.prem_analysis.proofs.marks.calls.+calling.Given as goal

abbrev pub invariant-add_all_called-loop-s : goal.invariant-add_all_called-loop-s
invariant-add_all_called-loop-s l = l.calls.items ++ list_called (drop l.s-index l.steps) ≡ l.fn.calls.items ++ list_called l.steps
