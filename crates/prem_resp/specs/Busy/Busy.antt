-- Busy periods of a level: the response time of periodic tasks under fixed priorities, whose intervals aren't preempted.
use Rattle.std.specs.Prelude.{◌≡◌, ℕ, ◌+◌, ◌-◌, ◌*◌, ◌/◌, ◌≤◌, ◌^◌, max, slice_index_or, List, [], ◌∷◌, take, drop, nat_lt, if◌then◌else◌, Option, Some, None}
use Rattle.prem_resp.specs.declared.busy.load.Load.{Load}

-- ---- loads, in order of priority

abbrev pub no_load : Load
no_load = record { period = 1; cost = 0; longest = 0 }

abbrev pub load_at : List Load → ℕ → Load
load_at loads i = slice_index_or loads i no_load

-- a period, a job that takes some time, and an interval
pub record IsLoad (x : Load) : Type 0 where
  pub period : 1 ≤ x.period
  pub cost : 1 ≤ x.cost
  pub small : x.cost ≤ 2 ^ 40
  pub longest : x.longest ≤ 2 ^ 41

-- ---- work

-- so many jobs are released at most in as many cycles: their periods, a part of one counted as a whole one
abbrev pub releases_in : (period cycles : ℕ) → ℕ
releases_in period cycles = (cycles + period - 1) / period

-- the work of the jobs that some tasks release in so many cycles
abbrev pub interference : ℕ → List Load → ℕ
interference cycles [] = 0
interference cycles (x ∷ xs) = releases_in x.period cycles * x.cost + interference cycles xs

-- the greatest interval of some tasks, or 0 where there are none
abbrev pub greatest_interval : List Load → ℕ
greatest_interval [] = 0
greatest_interval (x ∷ xs) = max x.longest (greatest_interval xs)

-- the blocking of a task: the longest interval of those behind it, none of which it preempts
abbrev pub blocking : List Load → ℕ → ℕ
blocking loads i = greatest_interval (drop (i + 1) loads)

-- what the core may have to do in so many cycles before it is free for tasks behind this one: an interval of one of those, a job
-- of this task, and the jobs of those before it
abbrev pub demand : List Load → ℕ → ℕ → ℕ
demand loads i cycles = blocking loads i + (load_at loads i).cost + interference cycles (take i loads)

-- ---- the busy period

-- it lasts as long as what it has to do
abbrev pub IsBalanced : List Load → ℕ → ℕ → Type 0
IsBalanced loads i cycles = (1 ≤ cycles) × (cycles ≡ demand loads i cycles)

-- the least such number of cycles
pub record IsLength (loads : List Load) (i cycles : ℕ) : Type 0 where
  pub balanced : IsBalanced loads i cycles
  pub least : (other : ℕ) → IsBalanced loads i other → cycles ≤ other

-- ---- where the search for it begins

-- the part of the processor that the jobs of some tasks need, in parts of 2 ^ 64, each rounded down
abbrev pub utilisation : List Load → ℕ
utilisation [] = 0
utilisation (x ∷ xs) = x.cost * 2 ^ 64 / x.period + utilisation xs

-- an interval behind the task and a job of it, in the part of the processor that the tasks before it leave; none where those leave no part
abbrev pub earliest_in : (work used : ℕ) → Option ℕ
earliest_in work used = if nat_lt used (2 ^ 64) then Some (work * 2 ^ 64 / (2 ^ 64 - used)) else None

abbrev pub earliest : List Load → ℕ → Option ℕ
earliest loads i = earliest_in (blocking loads i + (load_at loads i).cost) (utilisation (take i loads))
