-- Bills booked in the rows of a profile, and those of a whole set.
use Rattle.std.specs.Prelude.{◌≡◌, ℕ, ◌+◌, Bool, List, [], ◌∷◌, map}
use Rattle.prem_plant.specs.declared.plant.Plant.{Plant}
use Rattle.prem_layout.specs.Placed.{Placed}
use Rattle.prem_bounds.specs.Scale.{clipped}
use Rattle.prem_wcet_laws.specs.Wcet.{wcet_of}
use Rattle.prem_profile.specs.declared.bound.bill.Spot.{Spot}
use Rattle.prem_profile.specs.declared.cost.Cost.{Cost}
use Rattle.prem_profile.specs.Spent.{no_cost, plus, where_so}
use Rattle.prem_profile.specs.Account.{costs_sum, each_row, is_in_row}
use Rattle.prem_profile.specs.Strips.{Strip, first_row, rows_of, strip_words}
use Rattle.prem_profile.specs.Bound.Bills.{Bill, cycles_on, home_of, total}
use Rattle.prem_profile.specs.Bound.Tasks.{task_bill}

-- ---- rows

-- the items whose spots are so
abbrev pub spent_on : (Spot → Bool) → Bill → Cost
spent_on is_so [] = no_cost
spent_on is_so (x ∷ xs) = plus (where_so (is_so x.spot) x.cost) (spent_on is_so xs)

-- by the row of each word of memory
abbrev pub bill_row : (tasks : ℕ) → (words : List ℕ) → Bill → ℕ → Cost
bill_row tasks words bill row = spent_on (λ s. is_in_row tasks words row (home_of s)) bill

-- all rows of a bill come to the bill
abbrev pub BillRowsAddUp : Type 0
BillRowsAddUp =
    (tasks size : ℕ) (strips : List Strip) (bill : Bill) →
    costs_sum (each_row (bill_row tasks (rows_of tasks size strips) bill) 0 (first_row tasks + strip_words strips)) ≡ total bill

-- ---- sets

-- one job of each task, of which the first one has such a number
abbrev pub bills_from : Plant → (task : ℕ) → List Placed → List Bill
bills_from p task [] = []
bills_from p task (t ∷ ts) = task_bill p t.plans task t.task.program t.at ∷ bills_from p (task + 1) ts

-- each comes to what a job of the task takes at most, as numbers are told
abbrev pub SetBillsAddUp : Type 0
SetBillsAddUp = (p : Plant) (tasks : List Placed) → map (λ (bill : Bill). clipped (cycles_on bill)) (bills_from p 0 tasks) ≡ map (λ t. clipped (wcet_of p t.plans t.task.program t.at)) tasks
