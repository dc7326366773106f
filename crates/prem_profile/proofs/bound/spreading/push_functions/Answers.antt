use Rattle.std.proofs.Common.{◌≡◌, ◌-◌, ◌<◌, suc, length, ap, ◌∙◌, arith, ◌++◌}
use Rattle.prem_profile.specs.Bound.Priced.{bills_in}
use Rattle.prem_profile.specs.Bound.Spread.{spread}
use Rattle.prem_profile.proofs.BillLemmas.Spreading.{bill_there, spread_more}
use Rattle.prem_profile.proofs.bound.spreading.push_functions.Goals as goal

pub back-preserved : goal.back-preserved
back-preserved c =
    let functions = c.args.functions.now in
    let bills = bills_in functions in
    let k = c.back.n - 1 in
    let last : c.back.n ≡ suc k = omega (arith, c.back-test.true) in
    let lt : k < length functions = omega (arith, c.back.invariant.few, c.back-test.true) in
    record {
      few = omega (arith, c.back.invariant.few);
      long = c.in_ok-push_function.ensures.long ∙ c.back.invariant.long;
      rest = λ w told.
          spread_more bills (c.args.bill.now.items ++ spread bills (length functions) w) c.back.bill.items c.push_function.new.bill.items c.back.counts.items c.push_function.new.counts.items c.back.n k
          c.index-often.result.now c.deref.result.now last (c.back.invariant.rest w told) (omega (arith, lt, c.back.invariant.long)) c.index-often.ensures
          (c.deref.ensures.value ∙ ap (λ v. v.items) c.index-functions-n.is ∙ bill_there functions k _ lt) c.in_ok-push_function.ensures.items c.in_ok-push_function.ensures.told;
    }
