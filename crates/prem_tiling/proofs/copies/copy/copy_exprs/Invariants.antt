use Rattle.std.proofs.Common.{◌≡◌, take, map}
use Rattle.prem_tiling.proofs.Prelude.{items_of, expression_of}
use Rattle.prem_tiling.proofs.copies.copy.copy_exprs.Given as goal

abbrev pub invariant-loop-e : goal.invariant-loop-e
invariant-loop-e l = map expression_of (items_of l.copies) ≡ map expression_of (take l.e-index l.es)
