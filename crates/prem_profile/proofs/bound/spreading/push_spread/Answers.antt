use Rattle.std.proofs.Common.{◌≡◌, ◌+◌, ◌*◌, sym, subst, arith, length}
use Rattle.prem_bounds.specs.Scale.{clipped}
use Rattle.prem_wcet.proofs.Outcomes.{on_more}
use Rattle.prem_profile.specs.Bound.Spread.{Counts, calls_on}
use Rattle.prem_profile.proofs.BillLemmas.Spreading.{counts_none, path_told}
use Rattle.prem_profile.proofs.bound.spreading.push_spread.Goals as goal

pub returns : goal.returns
returns c =
    let functions = c.args.functions.now in
    let path = c.args.path.now in
    let one : 1 ≡ clipped 1 = omega arith in
    let none : Counts c.in_ok-counts.counts.items (λ g. 0) = subst (λ counts. Counts counts (λ g. 0)) (sym c.in_ok-counts.ensures) (counts_none (length functions)) in
    on_more c.push_functions.result
    (λ told. path_told functions c.args.bill.now.items path c.push_function.new.bill.items c.push_functions.new.bill.items c.in_ok-push_function.ensures.items
    (told (λ g. 0 + 1 * calls_on path g) (c.in_ok-push_function.ensures.told (λ g. 0) 1 one none)))
    c.push_functions.ensures
