use Rattle.std.proofs.Common.{◌≡◌, take}
use Rattle.prem_tiling.proofs.Prelude.{items_of}
use Rattle.prem_tiling.proofs.copies.copy.copy_constants.Given as goal

abbrev pub invariant-values : goal.invariant-values
invariant-values l = items_of l.copies ≡ take l.value-index l.values
