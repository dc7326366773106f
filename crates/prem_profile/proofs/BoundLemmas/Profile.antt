-- The lines of the profile of a set's bound add up to what its jobs take at most.
use Rattle.std.proofs.Common.{◌≡◌, ◌≤◌, ◌^◌, ℕ, ◌+◌, List, [], ◌∷◌, length, refl, ◌∙◌, arith}
use Rattle.prem_bounds.specs.Scale.{clipped}
use Rattle.prem_plant.specs.declared.plant.Plant.{Plant}
use Rattle.prem_layout.specs.Placed.{Placed}
use Rattle.prem_wcet_laws.specs.Wcet.{wcet_of}
use Rattle.prem_profile.specs.declared.cost.Cost.{Cost}
use Rattle.prem_profile.specs.Account.{each_row}
use Rattle.prem_profile.specs.Strips.{first_row, rows_of, strip_words}
use Rattle.prem_profile.specs.Callgrind.{no_calls_at}
use Rattle.prem_profile.specs.Entries.{profile_entries}
use Rattle.prem_profile.specs.Bound.Bills.{Bill, cycles_on, total}
use Rattle.prem_profile.specs.Bound.Booked.{bill_row, bills_from}
use Rattle.prem_profile.specs.Bound.Tasks.{task_bill}
use Rattle.prem_profile.specs.Bound.Profile.{AreShort, BoundsAddUp, joined, set_bill, wcets}
use Rattle.prem_profile.proofs.Reading.{profiles_are_read}
use Rattle.prem_profile.proofs.Adding.{lines_add_up}
use Rattle.prem_profile.proofs.RowsAdd.{rows_long}
use Rattle.prem_profile.proofs.BillLemmas.Lean.{set_lean, told_all}
use Rattle.prem_profile.proofs.BoundLemmas.Sums.{Comes, both, none, on_append}
use Rattle.prem_profile.proofs.BoundLemmas.Tasks.{bills_add_up}
use Rattle.prem_profile.proofs.BoundLemmas.Booked.{bill_rows_add_up}

-- what is told alike is the same up to 2 ^ 40
exactly : (m n : ℕ) → clipped m ≡ clipped n → n ≤ 2 ^ 40 → m ≡ n
exactly m n e le = omega (arith, e, le)

pub all_come : (p : Plant) (k : ℕ) (tasks : List Placed) → AreShort p tasks → cycles_on (joined (bills_from p k tasks)) ≡ wcets p tasks
all_come p k [] short = refl
all_come p k (t ∷ ts) short =
    let bill : Bill = task_bill p t.plans k t.task.program t.at in
    let here : cycles_on bill ≡ wcet_of p t.plans t.task.program t.at =
    exactly (cycles_on bill) (wcet_of p t.plans t.task.program t.at) (bills_add_up p t.plans k t.task.program t.at) short.0 in
    on_append bill (joined (bills_from p (k + 1) ts)) ∙ (λ i. here i + all_come p (k + 1) ts short.1 i)

all_told : (p : Plant) (k : ℕ) (tasks : List Placed) → Comes (joined (bills_from p k tasks)) (wcets p tasks)
all_told p k [] = none
all_told p k (t ∷ ts) =
    let here : Comes (task_bill p t.plans k t.task.program t.at) (wcet_of p t.plans t.task.program t.at) = record { is = bills_add_up p t.plans k t.task.program t.at } in
    both here (all_told p (k + 1) ts)

pub bounds_add_up : BoundsAddUp
bounds_add_up sources strips size p tasks =
    let bill : Bill = set_bill p tasks in
    let tasks_told : ℕ = length sources in
    let rows : ℕ = first_row tasks_told + strip_words strips in
    let costs : List Cost = each_row (bill_row tasks_told (rows_of tasks_told size strips) bill) 0 rows in
    record {
      entries = profile_entries sources strips costs no_calls_at;
      sums = total bill;
      read = profiles_are_read sources strips (total bill) costs no_calls_at;
      lines = lines_add_up sources strips costs no_calls_at (rows_long (bill_row tasks_told (rows_of tasks_told size strips) bill) 0 rows) ∙ bill_rows_add_up tasks_told size strips bill;
      items = λ plant. let fill = plant.fill.0 in let back = plant.back.0 in told_all bill (set_lean p (omega (arith, fill, back)) 0 tasks);
      told = (all_told p 0 tasks).is;
      exact = all_come p 0 tasks;
    }
