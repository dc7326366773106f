use Rattle.std.specs.Prelude.{take}
use Rattle.std.proofs.Common.{◌+◌, ◌*◌, refl, ap, ◌∙◌, arith, get_or}
use Rattle.prem_bounds.specs.Scale.{clipped}
use Rattle.prem_profile.specs.declared.bound.bill.Item.{Item}
use Rattle.prem_profile.specs.declared.bound.bill.Spot.TheVariants.{Switch}
use Rattle.prem_profile.specs.Spent.{no_cost}
use Rattle.prem_profile.specs.Bound.Spread.{calls_on, item_calls}
use Rattle.prem_profile.proofs.BillLemmas.Booked.{whole}
use Rattle.prem_profile.proofs.BillLemmas.Spreading.{counts_same, taken_calls}
use Rattle.prem_profile.proofs.bound.spreading.add_calls.Goals as goal

abbrev nothing : Item
nothing = record { spot = Switch 0; cost = no_cost }

pub items-preserved : goal.items-preserved
items-preserved c =
    let bill = c.args.bill.now in
    let i = c.items.item-index in
    let x = get_or bill i nothing in
    record {
      long = c.add_item.ensures.long ∙ c.items.invariant.long;
      told = λ w n is told.
          counts_same c.add_item.new.counts.items (λ g. w g + n * calls_on (take i bill) g + n * item_calls x g) (λ g. w g + n * calls_on (take (i + 1) bill) g)
          (λ g. taken_calls bill i x nothing c.items-test.true refl n (w g) g)
          (c.add_item.ensures.told (λ g. w g + n * calls_on (take i bill) g) n is (c.items.invariant.told w n is told));
    }

pub returns-clause-told : goal.returns-clause-told
returns-clause-told c w n is told f lt =
    c.items.invariant.told w n is told f lt ∙ ap (λ b. clipped (w f + n * calls_on b f)) (whole c.args.bill.now c.items.item-index (omega (arith, c.items-test.false)))
