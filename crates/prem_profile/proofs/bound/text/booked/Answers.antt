use Rattle.std.proofs.Common.{[], refl, ◌∙◌, ap, arith, get_or, length}
use Rattle.prem_profile.specs.declared.bound.bill.Item.{Item}
use Rattle.prem_profile.specs.declared.bound.bill.Spot.TheVariants.{Switch}
use Rattle.prem_profile.specs.Spent.{no_cost}
use Rattle.prem_profile.specs.Account.{each_row}
use Rattle.prem_profile.specs.Bound.Bills.{total}
use Rattle.prem_profile.specs.Bound.Booked.{bill_row}
use Rattle.prem_profile.proofs.Booking.{none_rows}
use Rattle.prem_profile.proofs.BillLemmas.Booked.{has_room, one_booked, one_told, whole}
use Rattle.prem_profile.proofs.bound.text.booked.Goals as goal

abbrev none : Item
none = record { spot = Switch 0; cost = no_cost }

pub items-init : goal.items-init
items-init c = record {
  all = c.new_account-account.ensures.total;
  rows = c.new_account-account.ensures.costs ∙ c.requires.empty ∙ none_rows (bill_row c.args.table.now.tasks c.args.table.now.words.items []) 0 (length c.args.costs.items) (λ i. refl);
}

pub book_item-requires : goal.book_item-requires
book_item-requires c =
    let bill = c.args.bill.now in
    let n = c.items.item-index in
    has_room bill c.requires.small n (get_or bill n none) none c.items-test.true refl c.args.table.now.tasks c.args.table.now.words.items (length c.args.costs.items)
    c.items.account.total c.items.account.costs.items c.items.invariant.all c.items.invariant.rows

pub items-preserved : goal.items-preserved
items-preserved c =
    let bill = c.args.bill.now in
    let n = c.items.item-index in
    record {
      all = one_told bill c.requires.small n (get_or bill n none) none c.items-test.true refl c.items.account.total c.book_item.new.account.total c.items.invariant.all c.book_item.ensures.total;
      rows = one_booked bill c.requires.small n (get_or bill n none) none c.items-test.true refl c.args.table.now.tasks c.args.table.now.words.items (length c.args.costs.items)
          c.items.account.costs.items c.book_item.new.account.costs.items c.items.invariant.rows c.book_item.ensures.costs;
    }

pub returns-clause-total : goal.returns-clause-total
returns-clause-total c = c.items.invariant.all ∙ ap total (whole c.args.bill.now c.items.item-index (omega (arith, c.items-test.false)))

pub returns-clause-costs : goal.returns-clause-costs
returns-clause-costs c =
    c.items.invariant.rows
    ∙ ap (λ b. each_row (bill_row c.args.table.now.tasks c.args.table.now.words.items b) 0 (length c.args.costs.items)) (whole c.args.bill.now c.items.item-index (omega (arith, c.items-test.false)))
