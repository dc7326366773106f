-- What is told of placed tasks, and of the rules that they break.
use Rattle.std.specs.Prelude.{◌≡◌, ℕ, zero, suc, ◌+◌, ◌<◌, nat_lt, not, Bool, List, [], ◌∷◌, length, map, option_map, Option, None, Some, Result, MatchResult}
use Rattle.prem_line.specs.declared.failing.Failing.{Failing}
use Rattle.prem_line.specs.declared.failing.Failing.TheVariants.{Refused, OutOfMemory}
use Rattle.prem_plant.specs.declared.plant.Plant.{Plant}
use Rattle.prem_syntax.specs.Syntax.{Text}
use Rattle.prem_syntax.specs.Resolved.{Routine}
use Rattle.prem_syntax.specs.Statements.{is_marked}
use Rattle.prem_layout.specs.Bounds.{job_bound_of}
use Rattle.prem_layout.specs.Facts.{IntervalFact, interval_facts, job_fact}
use Rattle.prem_layout.specs.Placed.{Placed, name_at}
use Rattle.prem_layout.specs.Rules.{LateRule, ConflictIn, BoundTooLarge, Length, Refusal, greatest_bound, over_tasks}
use Rattle.prem_bounds.specs.Facts.FactOf.{fact_of}
use Rattle.prem_bounds.specs.Facts.Large.{first_large}
use Rattle.prem_bounds.specs.Facts.Laws.{is_large}
use Rattle.prem_bounds.specs.declared.facts.facts.IntervalFact.{IntervalFact as FactFound}
use Rattle.prem_place.specs.declared.verdict.told.TaskBounds.{TaskBounds}
use Rattle.prem_place.specs.declared.verdict.verdict.Blame.{Blame}
use Rattle.prem_place.specs.declared.verdict.verdict.Verdict.{Verdict}
use Rattle.prem_place.specs.declared.verdict.verdict.Verdict.TheVariants as v

-- ---- functions of tasks by their numbers

abbrev pub routines_in : List Placed → ℕ → List Routine
routines_in [] n = []
routines_in (t ∷ ts) zero = t.task.program.routines
routines_in (t ∷ ts) (suc n) = routines_in ts n

abbrev pub name_in : List Placed → ℕ → ℕ → Text
name_in ts n f = name_at (routines_in ts n) f

-- there is a task with this number, and it has a function with that
pub record HasFunction (ts : List Placed) (n f : ℕ) : Type 0 where
  pub task : n < length ts
  pub function : f < length (routines_in ts n)

-- ---- rules that are broken

abbrev pub function_in : Verdict → ℕ
function_in (v.Conflict clash) = clash.function
function_in (v.BoundTooLarge f) = f
function_in (v.Length f bound stated) = f

abbrev pub rule_of : Text → Verdict → LateRule
rule_of name (v.Conflict clash) = ConflictIn name clash.conflict.set clash.conflict.lines clash.conflict.«ways»
rule_of name (v.BoundTooLarge f) = BoundTooLarge name
rule_of name (v.Length f bound stated) = Length name bound stated

-- as plain data, with the function's name
abbrev pub refusal_of : List Placed → Blame → Refusal LateRule
refusal_of ts b = record { task = Some b.task; rule = rule_of (name_in ts b.task (function_in b.verdict)) b.verdict }

abbrev pub blame_of : List Placed → Option Blame → Option (Refusal LateRule)
blame_of ts found = option_map (refusal_of ts) found

abbrev pub HasBlamed : List Placed → Option Blame → Type 0
HasBlamed ts None = Unit {0}
HasBlamed ts (Some b) = HasFunction ts b.task (function_in b.verdict)

-- the first task that breaks a rule is told; that memory is out tells nothing
abbrev pub IsBroken : (Placed → Option LateRule) → List Placed → Failing Blame → Type 0
IsBroken check ts (Refused b) = (over_tasks check ts ≡ Some (refusal_of ts b)) × HasFunction ts b.task (function_in b.verdict)
IsBroken check ts OutOfMemory = Unit {0}

-- nothing is refused exactly where it ends well, but for want of memory
abbrev pub Ends : {A : Type 0} → (Placed → Option LateRule) → List Placed → Result A (Failing Blame) → Type 0
Ends check ts result = MatchResult result (λ _. over_tasks check ts ≡ None) (IsBroken check ts)

-- ---- bounds

abbrev pub is_small : IntervalFact → Bool
is_small f = not (is_large f)

-- the first function of which a bound is too large
abbrev pub large_in : Plant → Placed → Option ℕ
large_in p t =
    first_large t.table.job (nat_lt greatest_bound (job_bound_of p t.plans t.table)) 0 (map is_large (interval_facts p t)) (map is_marked t.task.program.routines)

-- a fact with the number of its task
abbrev pub with_task : ℕ → IntervalFact → ℕ × IntervalFact
with_task n fact = (n, fact)

abbrev pub numbered : FactFound → ℕ × IntervalFact
numbered f = (f.task, fact_of f)

-- of a task's marked functions, with its number, and the bound of a job
pub record BoundsTold : Type 0 where
  pub facts : List (ℕ × IntervalFact)
  pub job : ℕ

abbrev pub bounds_of : TaskBounds → BoundsTold
bounds_of b = record { facts = map numbered b.facts.items; job = b.job }

abbrev pub told_of : Plant → ℕ → Placed → BoundsTold
told_of p n t = record { facts = map (with_task n) (interval_facts p t); job = (job_fact p t).bound }

-- of the tasks from number n on
abbrev pub told_from : Plant → ℕ → List Placed → List BoundsTold
told_from p n [] = []
told_from p n (t ∷ ts) = told_of p n t ∷ told_from p (n + 1) ts
