-- The rows of a bill come to the bill, and the bills of a set's tasks to what their jobs take.
use Rattle.std.specs.Prelude.{◌==◌}
use Rattle.std.proofs.Common.{◌≡◌, ℕ, ◌+◌, ◌<◌, List, [], ◌∷◌, length, map, refl, ap, ap₂, sym, ◌∙◌, arith}
use Rattle.prem_plant.specs.declared.plant.Plant.{Plant}
use Rattle.prem_layout.specs.Placed.{Placed}
use Rattle.prem_bounds.specs.Scale.{clipped}
use Rattle.prem_wcet_laws.specs.Wcet.{wcet_of}
use Rattle.prem_profile.specs.declared.cost.Cost.{Cost}
use Rattle.prem_profile.specs.declared.home.Home.{Home}
use Rattle.prem_profile.specs.Spent.{plus, where_so}
use Rattle.prem_profile.specs.Account.{costs_sum, each_row, row_of}
use Rattle.prem_profile.specs.Strips.{first_row, rows_of, strip_words}
use Rattle.prem_profile.specs.Bound.Bills.{Bill, cycles_on, home_of, total}
use Rattle.prem_profile.specs.Bound.Booked.{BillRowsAddUp, SetBillsAddUp, bill_row, bills_from}
use Rattle.prem_profile.proofs.Turns.{same_cost}
use Rattle.prem_profile.proofs.Booking.{with_row}
use Rattle.prem_profile.proofs.RowsAdd.{rows_long, rows_there, sum_none, sum_with}
use Rattle.prem_profile.proofs.BoundLemmas.Tasks.{bills_add_up}

swapped : (a b : Cost) → plus a b ≡ plus b a
swapped a b = same_cost (plus a b) (plus b a) (omega arith) (omega arith) (omega arith) (omega arith)

-- where the row of each home is one of so many
rows_come : (tasks : ℕ) (words : List ℕ) (rows : ℕ) → ((h : Home) → row_of tasks words h < rows) → (bill : Bill) → costs_sum (each_row (bill_row tasks words bill) 0 rows) ≡ total bill
rows_come tasks words rows there [] = sum_none (bill_row tasks words []) 0 rows (λ i. refl)
rows_come tasks words rows there (x ∷ bill) =
    let f : ℕ → Cost = bill_row tasks words bill in
    let g : ℕ → Cost = bill_row tasks words (x ∷ bill) in
    let r : ℕ = row_of tasks words (home_of x.spot) in
    let long : length (each_row f 0 rows) ≡ rows = rows_long f 0 rows in
    let lt : r < rows = there (home_of x.spot) in
    ap costs_sum (sym (with_row f g r rows x.cost (λ i. swapped (where_so (r == i) x.cost) (f i)))) ∙ sum_with (each_row f 0 rows) r x.cost (omega (arith, long, lt))
    ∙ ap (λ c. plus c x.cost) (rows_come tasks words rows there bill) ∙ swapped (total bill) x.cost

pub bill_rows_add_up : BillRowsAddUp
bill_rows_add_up tasks size strips bill = rows_come tasks (rows_of tasks size strips) (first_row tasks + strip_words strips) (rows_there tasks size strips) bill

all_add_up : (p : Plant) (k : ℕ) (tasks : List Placed) → map (λ (bill : Bill). clipped (cycles_on bill)) (bills_from p k tasks) ≡ map (λ t. clipped (wcet_of p t.plans t.task.program t.at)) tasks
all_add_up p k [] = refl
all_add_up p k (t ∷ ts) = ap₂ (λ n ns. n ∷ ns) (bills_add_up p t.plans k t.task.program t.at) (all_add_up p (k + 1) ts)

pub set_bills_add_up : SetBillsAddUp
set_bills_add_up p tasks = all_add_up p 0 tasks
