-- All rows of a profile add up to all that is spent.
use Rattle.std.specs.Prelude.{◌==◌, nat_lt, slice_index_or, slice_set}
use Rattle.std.proofs.Common.{◌≡◌, ℕ, zero, suc, ◌+◌, ◌/◌, ◌≤◌, ◌<◌, Bool, true, false, cond, List, [], ◌∷◌, length, replicate, refl, ap, ap₂, sym, ◌∙◌, arith}
use Rattle.prem_lru.specs.Entries.{ReplacementRule}
use Rattle.prem_gate.specs.declared.request.Request.{Request}
use Rattle.prem_cycle.specs.State.{Setup, MachineState}
use Rattle.prem_cycle.specs.Run.{cycles_of}
use Rattle.prem_profile.specs.declared.cost.Cost.{Cost}
use Rattle.prem_profile.specs.declared.home.Home.{Home}
use Rattle.prem_profile.specs.declared.home.Home.TheVariants.{Rest, Switch, At}
use Rattle.prem_profile.specs.Spent.{cycle_cost, home_after, no_cost, plus, spent, spent_in_all, where_so}
use Rattle.prem_profile.specs.Account.{costs_sum, each_row, row_cost, row_of, switch_row, with_cost}
use Rattle.prem_profile.specs.Strips.{Strip, first_row, rows_of, set_rows, strip_rows, strip_words}
use Rattle.prem_profile.specs.Entries.{RowsAddUp}
use Rattle.prem_profile.proofs.Turns.{same_cost, plus_none}
use Rattle.prem_profile.proofs.Booking.{with_row}
use Rattle.prem_profile.proofs.Numbers.{is_less}

-- ---- the rows of words are there

abbrev AreBelow : ℕ → List ℕ → Type 0
AreBelow n words = (i : ℕ) → slice_index_or words i 0 < n

none_below : (n size : ℕ) → 0 < n → AreBelow n (replicate size 0)
none_below n zero some zero = some
none_below n zero some (suc i) = some
none_below n (suc size) some zero = some
none_below n (suc size) some (suc i) = none_below n size some i

set_below : (n : ℕ) (words : List ℕ) (place row : ℕ) → row < n → AreBelow n words → AreBelow n (slice_set words place row)
set_below n [] zero row lt below i = below i
set_below n [] (suc place) row lt below i = below i
set_below n (w ∷ words) zero row lt below zero = lt
set_below n (w ∷ words) zero row lt below (suc i) = below (suc i)
set_below n (w ∷ words) (suc place) row lt below zero = below zero
set_below n (w ∷ words) (suc place) row lt below (suc i) = set_below n words place row lt (λ j. below (suc j)) i

rows_below : (n : ℕ) (words : List ℕ) (place row count : ℕ) → row + count ≤ n → AreBelow n words → AreBelow n (set_rows words place row count)
rows_below n words place row zero le below = below
rows_below n words place row (suc count) le below =
    rows_below n (slice_set words place row) (place + 1) (row + 1) count (omega (arith, le)) (set_below n words place row (omega (arith, le)) below)

strips_below : (n : ℕ) (words : List ℕ) (row : ℕ) (strips : List Strip) → row + strip_words strips ≤ n → AreBelow n words → AreBelow n (strip_rows words row strips)
strips_below n words row [] le below = below
strips_below n words row (s ∷ ss) le below =
    strips_below n (set_rows words (s.at / 4) row s.count) (row + s.count) ss (omega (arith, le)) (rows_below n words (s.at / 4) row s.count (omega (arith, le)) below)

pub switch_below : (tasks k n : ℕ) → 2 + tasks ≤ n → switch_row tasks k < n
switch_below tasks k n le = by (nat_lt k tasks) refl
  where
    by : (t : Bool) → nat_lt k tasks ≡ t → cond t (2 + k) 0 < n
    by true e = let lt = is_less k tasks e in omega (arith, lt, le)
    by false e = omega (arith, le)

pub rows_there : (tasks size : ℕ) (strips : List Strip) (h : Home) → row_of tasks (rows_of tasks size strips) h < first_row tasks + strip_words strips
rows_there tasks size strips Rest = omega arith
rows_there tasks size strips (Switch k) = switch_below tasks k (first_row tasks + strip_words strips) (omega arith)
rows_there tasks size strips (At pc) =
    strips_below (first_row tasks + strip_words strips) (replicate size 0) (first_row tasks) strips (omega arith) (none_below (first_row tasks + strip_words strips) size (omega arith)) (pc / 4)

-- ---- sums

pub rows_long : (f : ℕ → Cost) (k n : ℕ) → length (each_row f k n) ≡ n
rows_long f k zero = refl
rows_long f k (suc n) = ap suc (rows_long f (suc k) n)

pub sum_with : (xs : List Cost) (r : ℕ) (c : Cost) → r < length xs → costs_sum (with_cost xs r c) ≡ plus (costs_sum xs) c
sum_with [] r c lt = absurd (omega (arith, lt))
sum_with (x ∷ xs) zero c lt =
    same_cost (plus (plus x c) (costs_sum xs)) (plus (plus x (costs_sum xs)) c) (omega arith) (omega arith) (omega arith) (omega arith)
sum_with (x ∷ xs) (suc r) c lt =
    ap (plus x) (sum_with xs r c (omega (arith, lt)))
    ∙ same_cost (plus x (plus (costs_sum xs) c)) (plus (plus x (costs_sum xs)) c) (omega arith) (omega arith) (omega arith) (omega arith)

pub sum_none : (f : ℕ → Cost) (k n : ℕ) → ((i : ℕ) → f i ≡ no_cost) → costs_sum (each_row f k n) ≡ no_cost
sum_none f k zero none = refl
sum_none f k (suc n) none = ap₂ plus (none k) (sum_none f (suc k) n none) ∙ plus_none no_cost

next_row : (tasks : ℕ) (words : List ℕ) (rule : ReplacementRule) (p : Setup) (requests : List Request) (n : ℕ) (s : MachineState) (i : ℕ) →
    row_cost tasks words rule p requests (suc n) s i
    ≡ plus (row_cost tasks words rule p requests n s i)
    (where_so (row_of tasks words (home_after rule p requests Rest (suc n) s) == i) (cycle_cost rule p requests (cycles_of rule p requests n s)))
unfolding spent
next_row tasks words rule p requests n s i = refl

all_none : (rule : ReplacementRule) (p : Setup) (requests : List Request) (s : MachineState) → no_cost ≡ spent_in_all rule p requests Rest 0 s
unfolding spent
all_none rule p requests s = refl

row_none : (tasks : ℕ) (words : List ℕ) (rule : ReplacementRule) (p : Setup) (requests : List Request) (s : MachineState) (i : ℕ) → row_cost tasks words rule p requests 0 s i ≡ no_cost
unfolding spent
row_none tasks words rule p requests s i = refl

next_all : (rule : ReplacementRule) (p : Setup) (requests : List Request) (n : ℕ) (s : MachineState) →
    spent_in_all rule p requests Rest (suc n) s ≡ plus (spent_in_all rule p requests Rest n s) (cycle_cost rule p requests (cycles_of rule p requests n s))
unfolding spent
next_all rule p requests n s = refl

-- where the row of each home is one of so many
rows_sum : (tasks : ℕ) (words : List ℕ) (rows : ℕ) → ((h : Home) → row_of tasks words h < rows) → (rule : ReplacementRule) (p : Setup) (requests : List Request) (n : ℕ) (s : MachineState) →
    costs_sum (each_row (row_cost tasks words rule p requests n s) 0 rows) ≡ spent_in_all rule p requests Rest n s
rows_sum tasks words rows there rule p requests zero s =
    sum_none (row_cost tasks words rule p requests 0 s) 0 rows (row_none tasks words rule p requests s) ∙ all_none rule p requests s
rows_sum tasks words rows there rule p requests (suc n) s =
    let f : ℕ → Cost = row_cost tasks words rule p requests n s in
    let g : ℕ → Cost = row_cost tasks words rule p requests (suc n) s in
    let r : ℕ = row_of tasks words (home_after rule p requests Rest (suc n) s) in
    let c : Cost = cycle_cost rule p requests (cycles_of rule p requests n s) in
    let long : length (each_row f 0 rows) ≡ rows = rows_long f 0 rows in
    let lt : r < rows = there (home_after rule p requests Rest (suc n) s) in
    ap costs_sum (sym (with_row f g r rows c (next_row tasks words rule p requests n s))) ∙ sum_with (each_row f 0 rows) r c (omega (arith, long, lt))
    ∙ ap (λ x. plus x c) (rows_sum tasks words rows there rule p requests n s) ∙ sym (next_all rule p requests n s)

pub rows_add_up : RowsAddUp
rows_add_up tasks size strips rule p requests n s = rows_sum tasks (rows_of tasks size strips) (first_row tasks + strip_words strips) (rows_there tasks size strips) rule p requests n s

-- ---- a worked table of rows: of two tasks with two words of code from 4 on and one at 20, in a memory of eight words

abbrev first_strip : Strip
first_strip = record { task = 0; name = []; called = true; at = 4; count = 2; lines = 7 ∷ 8 ∷ [] }

abbrev second_strip : Strip
second_strip = record { task = 1; name = []; called = false; at = 20; count = 1; lines = 9 ∷ [] }

rows_worked : rows_of 2 8 (first_strip ∷ second_strip ∷ []) ≡ 0 ∷ 4 ∷ 5 ∷ 0 ∷ 0 ∷ 6 ∷ 0 ∷ 0 ∷ []
rows_worked = refl
