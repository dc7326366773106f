use Rattle.std.proofs.Common.{◌≡◌, length, drop}
use Rattle.prem_profile.specs.Bound.Bills.{gathered, with_bill}
use Rattle.prem_profile.specs.Bound.Slots.{slots_for}
use Rattle.prem_profile.proofs.BillLemmas.Slots.{AreFrom, AreSlots, AreWithin}
use Rattle.prem_profile.proofs.bound.gathering.gather.Given as goal

-- what is there, with what is left, is what comes out; each spot has its slot, which tells where its item stands
abbrev pub invariant-items : goal.invariant-items
invariant-items l = record {
  rest : with_bill l.all.items (drop l.item-index l.bill) ≡ gathered l.bill;
  slots : AreSlots l.low l.slots.items l.all.items;
  long : length l.slots.items ≡ slots_for l.low 0 l.bill;
  from : AreFrom l.low l.all.items;
  left : AreFrom l.low (drop l.item-index l.bill);
  within : AreWithin l.low (slots_for l.low 0 l.bill) (drop l.item-index l.bill);
}
