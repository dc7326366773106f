use Rattle.std.proofs.Common.{◌+◌, ◌<◌, ap, sym, subst, ◌∙◌, arith, length, drop, get_or}
use Rattle.std.proofs.lemmas.List.{drop_more, length-replicate}
use Rattle.prem_profile.specs.Bound.Bills.{with_bill}
use Rattle.prem_profile.specs.Bound.Slots.{items_with, nothing_spent, slot_of, slots_for, slots_with}
use Rattle.prem_profile.proofs.BillLemmas.Slots.{AreFrom, AreSlots, AreWithin, all_from, all_within, from_put, items_put, past, slots_long, slots_none, slots_put}
use Rattle.prem_profile.proofs.Numbers.{zeros}
use Rattle.prem_profile.proofs.bound.gathering.gather.Goals as goal

pub items-init : goal.items-init
items-init c =
    let bill = c.args.bill.now in
    let low = c.lowest-low.result in
    let many = slots_for low 0 bill in
    let slots = c.in_ok-slots.slots.items in
    let zeros = c.in_ok-slots.ensures ∙ ap zeros c.slots_for.ensures in
    record {
      rest = ap (λ b. with_bill b bill) c.new-all.ensures.items;
      slots = slots_none low many slots c.new-all.result.items zeros c.new-all.ensures.items;
      long = ap length zeros ∙ length-replicate many 0;
      from = subst (AreFrom low) (sym c.new-all.ensures.items) tt;
      left = subst (λ k. AreFrom k bill) (sym c.lowest-low.ensures) (all_from 4294967295 bill);
      within = all_within low 0 bill;
    }

pub items-preserved : goal.items-preserved
items-preserved c =
    let bill = c.args.bill.now in
    let low = c.lowest-low.result in
    let i = c.items.item-index in
    let x = get_or bill i nothing_spent in
    let all = c.items.all.items in
    let slots = c.items.slots.items in
    let many = slots_for low 0 bill in
    let left = drop_more bill i nothing_spent c.items-test.true in
    let from = subst (AreFrom low) left c.items.invariant.left in
    let within = subst (AreWithin low many) left c.items.invariant.within in
    let there : slot_of low x.spot < length slots = omega (arith, within.0, c.items.invariant.long) in
    let put = items_put low x from.0 slots all c.items.invariant.slots c.items.invariant.from there in
    let slot_is = c.slot_of.ensures.slot in
    let put_is = c.in_ok-put.ensures.items ∙ ap (λ s. items_with all (get_or slots s 0) x) slot_is ∙ put in
    let kept_is = c.in_ok-put.ensures.slots ∙ ap (λ s. slots_with slots s (length all)) slot_is in
    record {
      rest = ap (λ b. with_bill b (drop (i + 1) bill)) put_is ∙ sym (ap (with_bill all) left) ∙ c.items.invariant.rest;
      slots = subst (λ ss. AreSlots low ss c.put.new.items.items) (sym kept_is) (subst (AreSlots low _) (sym put_is) (slots_put low x from.0 slots all c.items.invariant.slots c.items.invariant.from there));
      long = ap length kept_is ∙ slots_long low x from.0 slots (length all) ∙ c.items.invariant.long;
      from = subst (AreFrom low) (sym put_is) (from_put low x from.0 all c.items.invariant.from);
      left = from.1;
      within = within.1;
    }

pub returns : goal.returns
returns c =
    let bill = c.args.bill.now in
    sym (ap (with_bill c.items.all.items) (past bill c.items.item-index (omega (arith, c.items-test.false)))) ∙ c.items.invariant.rest
