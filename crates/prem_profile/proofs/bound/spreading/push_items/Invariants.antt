use Rattle.std.proofs.Common.{◌≡◌, ◌++◌, drop}
use Rattle.prem_profile.specs.Bound.Bills.{bill_times}
use Rattle.prem_profile.specs.Bound.Spread.{without_calls}
use Rattle.prem_profile.proofs.bound.spreading.push_items.Given as goal

-- what is there, and what is left
abbrev pub invariant-items : goal.invariant-items
invariant-items l = l.bill.items ++ bill_times l.often (without_calls (drop l.item-index l.more)) ≡ l.initial.bill.items ++ bill_times l.often (without_calls l.more)
