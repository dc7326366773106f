use Rattle.std.proofs.Common.{◌≡◌, ◌≤◌, ◌+◌, ◌^◌, drop}
use Rattle.prem_bounds.specs.Scale.{clipped}
use Rattle.prem_profile.specs.Bound.Bills.{cycles_on}
use Rattle.prem_profile.proofs.bound.bill.cycles_on.Given as goal

-- what is summed, and what is left
abbrev pub invariant-items : goal.invariant-items
invariant-items l = record {
  rest : clipped (l.sum + cycles_on (drop l.item-index l.bill)) ≡ clipped (cycles_on l.bill);
  small : l.sum ≤ 2 ^ 41;
}
