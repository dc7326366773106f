use Rattle.std.proofs.Common.{◌≡◌, ◌++◌, drop}
use Rattle.prem_tiling.proofs.Prelude.{unflagged}
use Rattle.prem_tiling.proofs.copies.stale.unflagged.Given as goal

abbrev pub invariant-numbers : goal.invariant-numbers
invariant-numbers l = (l.kept.items ++ unflagged l.flags (drop l.k-index l.numbers)) ≡ unflagged l.flags l.numbers
