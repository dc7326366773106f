-- What is booked of a run: a row for each home of one kind, and all together.
use Rattle.std.specs.Prelude.{ℕ, zero, suc, ◌+◌, ◌/◌, ◌^◌, ◌<◌, ◌==◌, nat_lt, Bool, true, false, if◌then◌else◌, List, [], ◌∷◌, slice_index_or}
use Rattle.prem_lru.specs.Entries.{ReplacementRule}
use Rattle.prem_gate.specs.declared.request.Request.{Request}
use Rattle.prem_cycle.specs.declared.state.Stop.{Stop}
use Rattle.prem_cycle.specs.declared.state.Stop.TheVariants.{Finished, Trap, LogFull, Limit}
use Rattle.prem_cycle.specs.State.{Setup, MachineState}
use Rattle.prem_profile.specs.declared.cost.Cost.{Cost}
use Rattle.prem_profile.specs.declared.home.Home.{Home}
use Rattle.prem_profile.specs.declared.home.Home.TheVariants.{Rest, Switch, At}
use Rattle.prem_profile.specs.Spent.{no_cost, plus, spent}

-- ---- rows: 0 for what stands nowhere, 1 for idle time, then one for the switches to each of so many tasks, and behind these those of words of code

abbrev pub switch_row : (tasks k : ℕ) → ℕ
switch_row tasks k = if nat_lt k tasks then 2 + k else 0

-- by the row of each word of memory
abbrev pub row_of : (tasks : ℕ) → (words : List ℕ) → Home → ℕ
row_of tasks words Rest = 1
row_of tasks words (Switch k) = switch_row tasks k
row_of tasks words (At pc) = slice_index_or words (pc / 4) 0

abbrev pub is_in_row : (tasks : ℕ) → (words : List ℕ) → ℕ → Home → Bool
is_in_row tasks words row h = row_of tasks words h == row

-- what is spent in a row, in n cycles of a run
abbrev pub row_cost : (tasks : ℕ) → (words : List ℕ) → ReplacementRule → Setup → List Request → ℕ → MachineState → ℕ → Cost
row_cost tasks words rule p requests n s row = spent (is_in_row tasks words row) rule p requests Rest n s

-- of so many rows from one on
abbrev pub each_row : (ℕ → Cost) → (row count : ℕ) → List Cost
each_row cost row zero = []
each_row cost row (suc n) = cost row ∷ each_row cost (suc row) n

-- all of them together
abbrev pub costs_sum : List Cost → Cost
costs_sum [] = no_cost
costs_sum (c ∷ costs) = plus c (costs_sum costs)

-- ---- how it is kept

-- another cost is booked in a row, if it is there
abbrev pub with_cost : List Cost → (row : ℕ) → Cost → List Cost
with_cost [] row c = []
with_cost (x ∷ xs) zero c = plus x c ∷ xs
with_cost (x ∷ xs) (suc row) c = x ∷ with_cost xs row c

-- both together are words of 64 bits
pub record Fits (a b : Cost) : Type 0 where
  pub instructions : a.instructions + b.instructions < 2 ^ 64
  pub cycles : a.cycles + b.cycles < 2 ^ 64
  pub misses : a.misses + b.misses < 2 ^ 64
  pub backs : a.backs + b.backs < 2 ^ 64

pub record HasRoom (total : Cost) (costs : List Cost) (c : Cost) : Type 0 where
  pub total_fits : Fits total c
  pub each_fits : (row : ℕ) → Fits (slice_index_or costs row no_cost) c

-- whether a run that stopped so went on when it came to its limit
abbrev pub goes_on : Stop → Bool
goes_on Finished = false
goes_on (Trap task pc cause) = false
goes_on (LogFull n) = false
goes_on Limit = true
