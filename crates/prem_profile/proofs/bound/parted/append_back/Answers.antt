use Rattle.std.proofs.Common.{◌≡◌, ◌-◌, ◌<◌, ◌++◌, append-nil, suc, length, ap, sym, ◌∙◌, arith}
use Rattle.std.specs.Prelude.{take}
use Rattle.prem_profile.specs.Bound.Memory.{from_last}
use Rattle.prem_profile.specs.Bound.Priced.{bills_in}
use Rattle.prem_profile.proofs.BillLemmas.Back.{one_back}
use Rattle.prem_profile.proofs.BillLemmas.Booked.{whole}
use Rattle.prem_profile.proofs.BillLemmas.Spreading.{as_many, bill_there}
use Rattle.prem_profile.proofs.bound.parted.append_back.Goals as goal

pub back-init : goal.back-init
back-init c =
    let bills = c.args.bills.now in
    let many = as_many bills in
    record {
      few = omega arith;
      rest = ap (λ bs. c.args.bill.now.items ++ from_last bs) (whole (bills_in bills) (length bills) (omega (arith, many)));
    }

pub back-preserved : goal.back-preserved
back-preserved c =
    let bills = c.args.bills.now in
    let k = c.back.n - 1 in
    let last : c.back.n ≡ suc k = omega (arith, c.back-test.true) in
    let lt : k < length bills = omega (arith, c.back.invariant.few, c.back-test.true) in
    let many = as_many bills in
    record {
      few = omega (arith, c.back.invariant.few);
      rest = one_back c.back.bill.items c.append.new.bill.items c.deref.result.now _ (bills_in bills) c.back.n k last (omega (arith, lt, many))
          (c.deref.ensures.value ∙ ap (λ v. v.items) c.index-bills-n.is ∙ bill_there bills k _ lt) c.in_ok-append.ensures c.back.invariant.rest;
    }

pub returns : goal.returns
returns c =
    let bills = bills_in c.args.bills.now in
    let none : c.back.n ≡ 0 = omega (arith, c.back-test.false) in
    sym (append-nil c.back.bill.items) ∙ ap (λ n. c.back.bill.items ++ from_last (take n bills)) (sym none) ∙ c.back.invariant.rest
