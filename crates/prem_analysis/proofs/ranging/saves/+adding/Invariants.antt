use Rattle.std.proofs.Common.{◌≡◌, ◌++◌, drop}
use Rattle.prem_analysis.proofs.Prelude.{list_targets}
use Rattle.prem_analysis.proofs.ranging.saves.+adding.Given as goal

abbrev pub invariant-add_all-loop-s : goal.invariant-add_all-loop-s
invariant-add_all-loop-s l = l.locals.items ++ list_targets (drop l.s-index l.steps) ≡ l.fn.locals.items ++ list_targets l.steps
