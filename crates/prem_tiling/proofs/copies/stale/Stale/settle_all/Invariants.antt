use Rattle.std.proofs.Common.{◌≡◌, drop}
use Rattle.prem_tiling.proofs.Prelude.{walk_of, lowered_all}
use Rattle.prem_tiling.proofs.copies.stale.Stale.settle_all.Given as goal

abbrev pub invariant-numbers : goal.invariant-numbers
invariant-numbers l = lowered_all (drop l.k-index l.numbers) (walk_of l.self) ≡ lowered_all l.numbers (walk_of l.initial.self)
