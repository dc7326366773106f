use Rattle.std.proofs.Common.{◌≡◌, drop}
use Rattle.prem_profile.specs.Bound.Slots.{slots_for}
use Rattle.prem_profile.proofs.bound.gathering.slots_for.Given as goal

-- what is left gives what all give
abbrev pub invariant-items : goal.invariant-items
invariant-items l = slots_for l.low l.count (drop l.item-index l.bill) ≡ slots_for l.low 0 l.bill
