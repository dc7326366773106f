use Rattle.std.proofs.Common.{◌≡◌, drop}
use Rattle.prem_tiling.proofs.Prelude.{statements_of, have_call}
use Rattle.prem_tiling.proofs.copies.shape.+calling.Given as goal

abbrev pub invariant-have_call-stmts : goal.invariant-have_call-stmts
invariant-have_call-stmts l = have_call (statements_of l.stmts) ≡ have_call (statements_of (drop l.stmt-index l.stmts))
