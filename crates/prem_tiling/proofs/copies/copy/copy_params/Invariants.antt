use Rattle.std.proofs.Common.{◌≡◌, take, map}
use Rattle.prem_tiling.proofs.Prelude.{items_of, parameter_of}
use Rattle.prem_tiling.proofs.copies.copy.copy_params.Given as goal

abbrev pub invariant-loop-p : goal.invariant-loop-p
invariant-loop-p l = map parameter_of (items_of l.copies) ≡ map parameter_of (take l.p-index l.ps)
