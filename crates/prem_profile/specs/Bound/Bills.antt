-- Bills: what a charge is made of, item by item, and for what each item is.
use Rattle.std.specs.Prelude.{ℕ, ◌+◌, ◌*◌, ◌/◌, ◌==◌, nat_le, nat_lt, Bool, true, false, if◌then◌else◌, List, [], ◌∷◌, map}
use Rattle.prem_bounds.specs.Scale.{clipped}
use Rattle.prem_profile.specs.declared.bound.bill.Item.{Item}
use Rattle.prem_profile.specs.declared.bound.bill.Spot.{Spot}
use Rattle.prem_profile.specs.declared.bound.bill.Spot.TheVariants.{Switch, At, Call}
use Rattle.prem_profile.specs.declared.home.Home.{Home}
use Rattle.prem_profile.specs.declared.home.Home.TheVariants.{Rest, Switch as Switches, At as Word}
use Rattle.prem_profile.specs.declared.cost.Cost.{Cost}
use Rattle.prem_profile.specs.Spent.{no_cost, plus}

abbrev pub Bill : Type 0
Bill = List Item

-- all together
abbrev pub total : Bill → Cost
total [] = no_cost
total (x ∷ xs) = plus x.cost (total xs)

abbrev pub cycles_on : Bill → ℕ
cycles_on bill = (total bill).cycles

-- each item so many times, told up to 2 ^ 41
abbrev pub cost_times : ℕ → Cost → Cost
cost_times n c = record {
  instructions = clipped (n * c.instructions);
  cycles = clipped (n * c.cycles);
  misses = clipped (n * c.misses);
  backs = clipped (n * c.backs);
}

abbrev pub bill_times : ℕ → Bill → Bill
bill_times n bill = map (λ (x : Item). record { spot = x.spot; cost = cost_times n x.cost }) bill

-- the one with more cycles, and the one with fewer, as they are told; the first where both have as many
abbrev pub dearer : Bill → Bill → Bill
dearer a b = if nat_lt (clipped (cycles_on a)) (clipped (cycles_on b)) then b else a

abbrev pub cheaper : Bill → Bill → Bill
cheaper a b = if nat_le (clipped (cycles_on a)) (clipped (cycles_on b)) then a else b

abbrev pub spent_at : Spot → Cost → Item
spent_at s c = record { spot = s; cost = c }

-- where an item is told; calls have no home of their own
abbrev pub home_of : Spot → Home
home_of (Switch k) = Switches k
home_of (At pc) = Word pc
home_of (Call f) = Rest

-- whether an item stands for what a function takes
abbrev pub is_call : Spot → Bool
is_call (Switch k) = false
is_call (At pc) = false
is_call (Call f) = true

-- ---- gathered bills, which have one item for each spot

-- spots that are one: the switches to a task, the instructions of a word, and the calls of a function
abbrev pub is_one : Spot → Spot → Bool
is_one (Switch j) (Switch k) = j == k
is_one (Switch j) (At pc) = false
is_one (Switch j) (Call f) = false
is_one (At pc) (Switch k) = false
is_one (At a) (At b) = a / 4 == b / 4
is_one (At pc) (Call f) = false
is_one (Call f) (Switch k) = false
is_one (Call f) (At pc) = false
is_one (Call f) (Call g) = f == g

-- both together, told up to 2 ^ 41
abbrev pub told_plus : Cost → Cost → Cost
told_plus a b = record {
  instructions = clipped (a.instructions + b.instructions);
  cycles = clipped (a.cycles + b.cycles);
  misses = clipped (a.misses + b.misses);
  backs = clipped (a.backs + b.backs);
}

-- one item more: the item that has its spot gets its cost too; without one it is the last
abbrev pub with_item : Bill → Item → Bill
with_item [] x = x ∷ []
with_item (y ∷ bill) x = if is_one y.spot x.spot then spent_at y.spot (told_plus y.cost x.cost) ∷ bill else y ∷ with_item bill x

-- all items of another bill more
abbrev pub with_bill : Bill → Bill → Bill
with_bill bill [] = bill
with_bill bill (x ∷ more) = with_bill (with_item bill x) more

abbrev pub gathered : Bill → Bill
gathered bill = with_bill [] bill
