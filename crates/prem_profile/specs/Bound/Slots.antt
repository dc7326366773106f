-- How a bill is gathered in memory: each spot has a slot, which tells where the item of that spot stands.
use Rattle.std.specs.Prelude.{ℕ, zero, suc, ◌+◌, ◌-◌, ◌*◌, ◌/◌, ◌==◌, min, max, if◌then◌else◌, List, [], ◌∷◌, ◌++◌, slice_index_or, slice_set}
use Rattle.prem_profile.specs.declared.bound.bill.Item.{Item}
use Rattle.prem_profile.specs.declared.bound.bill.Spot.{Spot}
use Rattle.prem_profile.specs.declared.bound.bill.Spot.TheVariants.{Switch, At, Call}
use Rattle.prem_profile.specs.declared.cost.Cost.{Cost}
use Rattle.prem_profile.specs.Spent.{no_cost}
use Rattle.prem_profile.specs.Bound.Bills.{Bill, spent_at, told_plus}

-- the lowest word that a bill has, where none is below a number; a word is a quarter of its address
abbrev pub lower : ℕ → Spot → ℕ
lower low (Switch k) = low
lower low (At pc) = min low (pc / 4)
lower low (Call f) = low

abbrev pub lowest : ℕ → Bill → ℕ
lowest low [] = low
lowest low (x ∷ bill) = lowest (lower low x.spot) bill

-- each kind has every third slot; words from a lowest one on
abbrev pub slot_of : (low : ℕ) → Spot → ℕ
slot_of low (Switch k) = 3 * k
slot_of low (At pc) = 3 * (pc / 4 - low) + 1
slot_of low (Call f) = 3 * f + 2

-- how many slots a bill needs, and no fewer than a number
abbrev pub slots_for : (low count : ℕ) → Bill → ℕ
slots_for low count [] = count
slots_for low count (x ∷ bill) = slots_for low (max count (slot_of low x.spot + 1)) bill

abbrev pub nothing_spent : Item
nothing_spent = spent_at (Switch 0) no_cost

-- the item at a place gets another cost too
abbrev pub more_at : Bill → (place : ℕ) → Cost → Bill
more_at [] place c = []
more_at (x ∷ bill) zero c = spent_at x.spot (told_plus x.cost c) ∷ bill
more_at (x ∷ bill) (suc place) c = x ∷ more_at bill place c

-- an item that has such a number in its slot: 0 where its spot has no item, else 1 + the place of that one
abbrev pub items_with : Bill → (number : ℕ) → Item → Bill
items_with bill number x = if number == 0 then bill ++ x ∷ [] else more_at bill (number - 1) x.cost

abbrev pub slots_by : List ℕ → (slot items number : ℕ) → List ℕ
slots_by slots slot items number = if number == 0 then slice_set slots slot (items + 1) else slots

abbrev pub slots_with : List ℕ → (slot items : ℕ) → List ℕ
slots_with slots slot items = slots_by slots slot items (slice_index_or slots slot 0)
