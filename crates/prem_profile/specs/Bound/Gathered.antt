-- What a gathered bill keeps of a bill, and that it has one item for each spot.
use Rattle.std.specs.Prelude.{◌≡◌, ◌||◌, ℕ, Bool, false, List, [], ◌∷◌}
use Rattle.prem_bounds.specs.Scale.{clipped}
use Rattle.prem_profile.specs.declared.bound.bill.Spot.{Spot}
use Rattle.prem_profile.specs.declared.cost.Cost.{Cost}
use Rattle.prem_profile.specs.Bound.Bills.{Bill, gathered, is_one, total}
use Rattle.prem_profile.specs.Bound.Booked.{bill_row}

-- costs that are told alike
pub record AreAlike (a b : Cost) : Type 0 where
  pub instructions : clipped a.instructions ≡ clipped b.instructions
  pub cycles : clipped a.cycles ≡ clipped b.cycles
  pub misses : clipped a.misses ≡ clipped b.misses
  pub backs : clipped a.backs ≡ clipped b.backs

-- whether a bill has an item of a spot
abbrev pub has_spot : Bill → Spot → Bool
has_spot [] s = false
has_spot (x ∷ bill) s = is_one x.spot s || has_spot bill s

-- no two items have one spot
abbrev pub AreApart : Bill → Type 0
AreApart [] = Unit {0}
AreApart (x ∷ bill) = (has_spot bill x.spot ≡ false) × AreApart bill

-- neither what it comes to changes, nor what a row of a profile has of it, as numbers are told
pub record IsGathered (bill : Bill) : Type 0 where
  pub total : AreAlike (total (gathered bill)) (total bill)
  pub rows : (tasks : ℕ) (words : List ℕ) (row : ℕ) → AreAlike (bill_row tasks words (gathered bill) row) (bill_row tasks words bill row)
  pub apart : AreApart (gathered bill)

abbrev pub BillsAreGathered : Type 0
BillsAreGathered = (bill : Bill) → IsGathered bill
