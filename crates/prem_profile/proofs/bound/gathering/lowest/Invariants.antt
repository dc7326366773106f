use Rattle.std.proofs.Common.{◌≡◌, drop}
use Rattle.prem_profile.specs.Bound.Slots.{lowest}
use Rattle.prem_profile.proofs.bound.gathering.lowest.Given as goal

-- what is left gives what all give
abbrev pub invariant-items : goal.invariant-items
invariant-items l = lowest l.low (drop l.item-index l.bill) ≡ lowest 4294967295 l.bill
