use Rattle.std.proofs.Common.{◌≡◌, take, map}
use Rattle.prem_tiling.proofs.Prelude.{local_of, names_of}
use Rattle.prem_tiling.proofs.copies.carried.names_of.Given as goal

abbrev pub invariant-loop-local : goal.invariant-loop-local
invariant-loop-local l = l.names ≡ names_of (map local_of (take l.local-index l.locals))
