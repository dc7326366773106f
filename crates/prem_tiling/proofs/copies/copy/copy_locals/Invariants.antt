use Rattle.std.proofs.Common.{◌≡◌, take, map}
use Rattle.prem_tiling.proofs.Prelude.{items_of, local_of}
use Rattle.prem_tiling.proofs.copies.copy.copy_locals.Given as goal

abbrev pub invariant-loop-l : goal.invariant-loop-l
invariant-loop-l l = map local_of (items_of l.copies) ≡ map local_of (take l.l-index l.ls)
