use Rattle.std.specs.Prelude.{take}
use Rattle.std.proofs.Common.{◌≡◌, ℕ, ◌+◌, ◌*◌, length}
use Rattle.prem_bounds.specs.Scale.{clipped}
use Rattle.prem_profile.specs.Bound.Spread.{Counts, calls_on}
use Rattle.prem_profile.proofs.bound.spreading.add_calls.Given as goal

-- the calls of the first items are counted
abbrev pub invariant-items : goal.invariant-items
invariant-items l = record {
  long : length l.counts.items ≡ length l.initial.counts.items;
  told : (w : ℕ → ℕ) → (n : ℕ) → l.often ≡ clipped n → Counts l.initial.counts.items w → Counts l.counts.items (λ g. w g + n * calls_on (take l.item-index l.bill) g);
}
