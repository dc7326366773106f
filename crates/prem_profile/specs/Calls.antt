-- The calls of a run, and what is spent in them: inclusive costs.
use Rattle.std.specs.Prelude.{◌≡◌, ℕ, zero, suc, ◌+◌, ◌-◌, ◌<◌, ◌^◌, ◌==◌, ◌&&◌, not, nat_lt, Bool, if◌then◌else◌, List, [], ◌∷◌, ◌++◌, replicate, slice_index_or, slice_set}
use Rattle.prem_lru.specs.Entries.{ReplacementRule}
use Rattle.prem_gate.specs.declared.request.Request.{Request}
use Rattle.prem_cycle.specs.State.{Setup, MachineState}
use Rattle.prem_cycle.specs.Run.{cycles_of}
use Rattle.prem_profile.specs.declared.cost.Cost.{Cost}
use Rattle.prem_profile.specs.declared.home.Home.{Home}
use Rattle.prem_profile.specs.declared.home.Home.TheVariants.{Rest}
use Rattle.prem_profile.specs.declared.calls.WideCost.{WideCost}
use Rattle.prem_profile.specs.declared.calls.Calls.{Calls}
use Rattle.prem_profile.specs.Spent.{cycle_cost, home_after, no_cost, plus, where_so}
use Rattle.prem_profile.specs.Account.{row_of, with_cost}
use Rattle.prem_profile.specs.Strips.{Strip, first_row}

-- ---- functions: the strips that are called, by their number from 1 on

-- that of each row; 0 for a start, which nothing calls, and for rows of no code
abbrev pub functions_from : (number : ℕ) → List Strip → List ℕ
functions_from number [] = []
functions_from number (s ∷ ss) = replicate s.count (if s.called then number else 0) ++ functions_from (number + 1) ss

abbrev pub functions_of : (tasks : ℕ) → List Strip → List ℕ
functions_of tasks strips = replicate (first_row tasks) 0 ++ functions_from 1 strips

abbrev pub function_at : (functions : List ℕ) → ℕ → ℕ
function_at functions row = slice_index_or functions row 0

-- what has no line stands in none
abbrev pub AreOfCode : (functions : List ℕ) → (tasks : ℕ) → Type 0
AreOfCode functions tasks = (row : ℕ) → row < first_row tasks → function_at functions row ≡ 0

-- ---- calls

-- the first word of a function: the row before stands outside of it
abbrev pub is_first : (functions : List ℕ) → ℕ → Bool
is_first functions row = nat_lt 0 (function_at functions row) && not (function_at functions (row - 1) == function_at functions row)

-- a cycle is spent at the first word of a function, and the one before outside of it, at the instruction that has called it
abbrev pub is_call : (functions : List ℕ) → (before row : ℕ) → Bool
is_call functions before row = is_first functions row && not (function_at functions before == function_at functions row)

-- which row has called each function last, and which function each row has called last; 0 where none has
pub record LastCalls : Type 0 where
  pub callers : List ℕ
  pub callees : List ℕ

abbrev pub with_call : (function row : ℕ) → LastCalls → LastCalls
with_call function row calls = record { callers = slice_set calls.callers function row; callees = slice_set calls.callees row function }

abbrev pub noted : (functions : List ℕ) → (before row : ℕ) → LastCalls → LastCalls
noted functions before row calls = if is_call functions before row then with_call (function_at functions row) before calls else calls

-- the row that has called a row's function last
abbrev pub caller_of : (functions callers : List ℕ) → ℕ → ℕ
caller_of functions callers row = slice_index_or callers (function_at functions row) 0

abbrev pub follow : (rest : ℕ → List ℕ) → (caller : ℕ) → List ℕ
follow rest zero = []
follow rest (suc c) = suc c ∷ rest (suc c)

-- the open calls in which a row stands, the innermost first: that by which its function was called last, and those in which the caller stands
abbrev pub calls_of : (most : ℕ) → (functions callers : List ℕ) → ℕ → List ℕ
calls_of zero functions callers row = []
calls_of (suc n) functions callers row = follow (calls_of n functions callers) (caller_of functions callers row)

-- ---- what is spent in them

-- behind n cycles from a state on
unfoldable pub calls_after : (functions : List ℕ) → (rows : Home → ℕ) → ReplacementRule → Setup → List Request → Home → LastCalls → ℕ → MachineState → LastCalls
calls_after functions rows rule p requests before calls zero s = calls
calls_after functions rows rule p requests before calls (suc n) s =
    noted functions (rows (home_after rule p requests before n s)) (rows (home_after rule p requests before (suc n) s)) (calls_after functions rows rule p requests before calls n s)

-- of a cost what is spent in the calls of a row, once for each that is open
abbrev pub spent_in : (open_calls : List ℕ) → (call : ℕ) → Cost → Cost
spent_in [] call c = no_cost
spent_in (r ∷ rs) call c = plus (where_so (r == call) c) (spent_in rs call c)

-- what n cycles from a state on spend in the calls of a row
unfoldable pub spent_within : (most : ℕ) → (functions : List ℕ) → (rows : Home → ℕ) → (call : ℕ) → ReplacementRule → Setup → List Request → Home → LastCalls → ℕ → MachineState → Cost
spent_within most functions rows call rule p requests before calls zero s = no_cost
spent_within most functions rows call rule p requests before calls (suc n) s =
    plus (spent_within most functions rows call rule p requests before calls n s)
    (spent_in (calls_of most functions (calls_after functions rows rule p requests before calls (suc n) s).callers (rows (home_after rule p requests before (suc n) s))) call
    (cycle_cost rule p requests (cycles_of rule p requests n s)))

-- before the first cycle, of so many functions and rows: the numbers of functions go from 0 up to that of the last
abbrev pub no_calls : (most rows : ℕ) → LastCalls
no_calls most rows = record { callers = replicate most 0 ++ 0 ∷ []; callees = replicate rows 0 }

-- of a run of n cycles
abbrev pub run_calls : (functions : List ℕ) → (tasks : ℕ) → (words : List ℕ) → (most rows : ℕ) → ReplacementRule → Setup → List Request → ℕ → MachineState → LastCalls
run_calls functions tasks words most rows rule p requests n s = calls_after functions (row_of tasks words) rule p requests Rest (no_calls most rows) n s

abbrev pub call_cost : (functions : List ℕ) → (tasks : ℕ) → (words : List ℕ) → (most rows : ℕ) → ReplacementRule → Setup → List Request → ℕ → MachineState → ℕ → Cost
call_cost functions tasks words most rows rule p requests n s call = spent_within most functions (row_of tasks words) call rule p requests Rest (no_calls most rows) n s

-- ---- how it is kept

-- a cost is booked at each open call
abbrev pub with_calls : List Cost → (open_calls : List ℕ) → Cost → List Cost
with_calls costs [] c = costs
with_calls costs (r ∷ rs) c = with_calls (with_cost costs r c) rs c

-- what is booked, with what was spent of late in the open calls of a row
abbrev pub settled : (most : ℕ) → (functions callers : List ℕ) → (row : ℕ) → (recent : Cost) → List Cost → List Cost
settled most functions callers row recent costs = with_calls costs (calls_of most functions callers row) recent

-- behind another cycle: as long as the function stays, its cost is one of late
abbrev pub recent_with : (functions : List ℕ) → (before row : ℕ) → (recent cost : Cost) → Cost
recent_with functions before row recent cost = plus (if function_at functions before == function_at functions row then recent else no_cost) cost

abbrev pub costs_with : (most : ℕ) → (functions callers : List ℕ) → (before row : ℕ) → (recent : Cost) → List Cost → List Cost
costs_with most functions callers before row recent costs =
    if function_at functions before == function_at functions row then costs else settled most functions callers before recent costs

abbrev pub last_calls : Calls → LastCalls
last_calls c = record { callers = c.callers.items; callees = c.callees.items }

-- in words of 128 bits
abbrev pub narrow : WideCost → Cost
narrow w = record { instructions = w.instructions; cycles = w.cycles; misses = w.misses; backs = w.backs }

pub record FitsWide (a b : Cost) : Type 0 where
  pub instructions : a.instructions + b.instructions < 2 ^ 128
  pub cycles : a.cycles + b.cycles < 2 ^ 128
  pub misses : a.misses + b.misses < 2 ^ 128
  pub backs : a.backs + b.backs < 2 ^ 128

-- so many times
abbrev pub times : ℕ → ℕ → ℕ
times zero k = 0
times (suc n) k = k + times n k

-- a cost may be booked in any row so many times
abbrev pub HasWideRoom : ℕ → List Cost → Cost → Type 0
HasWideRoom most costs c =
    (row : ℕ) →
    FitsWide (slice_index_or costs row no_cost)
    (record { instructions = times most c.instructions; cycles = times most c.cycles; misses = times most c.misses; backs = times most c.backs })
