use Rattle.std.proofs.Common.{◌≡◌, drop, map}
use Rattle.prem_tiling.proofs.Prelude.{local_of, are_constants}
use Rattle.prem_tiling.proofs.copies.shape.are_constants.Given as goal

abbrev pub invariant-locals : goal.invariant-locals
invariant-locals l = are_constants (map local_of l.locals) ≡ are_constants (map local_of (drop l.local-index l.locals))
