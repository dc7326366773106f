use Rattle.std.proofs.Common.{◌≡◌, ◌≤◌, ℕ, ◌++◌, length}
use Rattle.prem_profile.specs.Bound.Priced.{bills_in}
use Rattle.prem_profile.specs.Bound.Spread.{Counts, spread}
use Rattle.prem_profile.proofs.BillLemmas.Spreading.{IsSpread}
use Rattle.prem_profile.proofs.bound.spreading.push_functions.Given as goal

abbrev pub decreases-back : goal.decreases-back
decreases-back l = l.n

-- the last functions are told, and what is left is counted
abbrev pub invariant-back : goal.invariant-back
invariant-back l = record {
  few : l.n ≤ length l.functions;
  long : length l.counts.items ≡ length l.functions;
  rest : (w : ℕ → ℕ) → Counts l.initial.counts.items w →
      IsSpread (bills_in l.functions) (l.initial.bill.items ++ spread (bills_in l.functions) (length l.functions) w) l.bill.items l.counts.items l.n;
}
