-- A path with the items of the functions that it calls in place of its calls. Each function is told once, as often as it is called in all, counted from the last
-- function to the first one: a function calls only those before it.
use Rattle.std.specs.Prelude.{◌≡◌, ◌<◌, ℕ, zero, suc, ◌+◌, ◌*◌, ◌==◌, if◌then◌else◌, List, [], ◌∷◌, ◌++◌, length, slice_index_or}
use Rattle.prem_bounds.specs.Scale.{clipped}
use Rattle.prem_profile.specs.declared.bound.bill.Item.{Item}
use Rattle.prem_profile.specs.declared.bound.bill.Spot.{Spot}
use Rattle.prem_profile.specs.declared.bound.bill.Spot.TheVariants.{Switch, At, Call}
use Rattle.prem_profile.specs.Bound.Bills.{Bill, bill_times, is_call}
use Rattle.prem_profile.specs.Bound.Pieces.{bill_at}

-- ---- how often functions are called

-- how many of so many calls of a function are such of another one
abbrev pub calls_for : (g n f : ℕ) → ℕ
calls_for g n f = if g == f then n else 0

abbrev pub spot_calls : Spot → (n f : ℕ) → ℕ
spot_calls (Switch k) n f = 0
spot_calls (At pc) n f = 0
spot_calls (Call g) n f = calls_for g n f

abbrev pub item_calls : Item → ℕ → ℕ
item_calls x f = spot_calls x.spot x.cost.instructions f

-- how often a bill calls a function
abbrev pub calls_on : Bill → ℕ → ℕ
calls_on [] f = 0
calls_on (x ∷ bill) f = item_calls x f + calls_on bill f

-- ---- items

abbrev pub item_told : Item → Bill
item_told x = if is_call x.spot then [] else x ∷ []

-- all but the calls
abbrev pub without_calls : Bill → Bill
without_calls [] = []
without_calls (x ∷ bill) = item_told x ++ without_calls bill

-- these so often; none where that is never
abbrev pub items_often : ℕ → Bill → Bill
items_often zero bill = []
items_often (suc n) bill = bill_times (suc n) (without_calls bill)

-- the first n functions, which are called so often: the last one, and with its calls those before it
abbrev pub spread : List Bill → (n : ℕ) → (often : ℕ → ℕ) → Bill
spread bills zero often = []
spread bills (suc n) often = items_often (often n) (bill_at bills n) ++ spread bills n (λ f. often f + often n * calls_on (bill_at bills n) f)

-- a path, and all functions as often as it calls them
abbrev pub spread_path : List Bill → Bill → Bill
spread_path bills path = items_often 1 path ++ spread bills (length bills) (calls_on path)

-- ---- counts in memory

-- told up to 2 ^ 41
abbrev pub Counts : List ℕ → (often : ℕ → ℕ) → Type 0
Counts counts often = (f : ℕ) → f < length counts → slice_index_or counts f 0 ≡ clipped (often f)
