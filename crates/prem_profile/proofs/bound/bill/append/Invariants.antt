use Rattle.std.proofs.Common.{◌≡◌, ◌++◌, drop}
use Rattle.prem_profile.proofs.bound.bill.append.Given as goal

-- what is there, and what is left
abbrev pub invariant-items : goal.invariant-items
invariant-items l = l.bill.items ++ drop l.item-index l.more ≡ l.initial.bill.items ++ l.more
