use Rattle.std.specs.Prelude.{take}
use Rattle.std.proofs.Common.{◌≡◌, length}
use Rattle.prem_profile.specs.Account.{each_row}
use Rattle.prem_profile.specs.Bound.Bills.{total}
use Rattle.prem_profile.specs.Bound.Booked.{bill_row}
use Rattle.prem_profile.proofs.bound.text.booked.Given as goal

-- the first items are booked
abbrev pub invariant-items : goal.invariant-items
invariant-items l = record {
  all : l.account.total ≡ total (take l.item-index l.bill);
  rows : l.account.costs.items ≡ each_row (bill_row l.table.tasks l.table.words.items (take l.item-index l.bill)) 0 (length l.fn.costs.items);
}
