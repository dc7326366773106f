use Rattle.std.specs.Prelude.{take}
use Rattle.std.proofs.Common.{◌≡◌, ◌≤◌, ◌++◌, length}
use Rattle.prem_profile.specs.Bound.Memory.{from_last}
use Rattle.prem_profile.specs.Bound.Priced.{bills_in}
use Rattle.prem_profile.proofs.bound.parted.append_back.Given as goal

abbrev pub decreases-back : goal.decreases-back
decreases-back l = l.n

-- what is there, and what is left
abbrev pub invariant-back : goal.invariant-back
invariant-back l = record {
  few : l.n ≤ length l.bills;
  rest : l.bill.items ++ from_last (take l.n (bills_in l.bills)) ≡ l.initial.bill.items ++ from_last (bills_in l.bills);
}
