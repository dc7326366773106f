-- A compiled set in memory with its times, as plain data.
use Rattle.std.specs.Prelude.{◌≡◌, ◌≤◌, ◌^◌, ℕ, List, All, map, Result, MatchResult}
use Rattle.std.specs.List.{AllByRecursion}
use Rattle.prem_list.specs.Sequence.{items_of}
use Rattle.prem_plant.specs.Places.{Extent}
use Rattle.prem_syntax.specs.Name.{name_bytes}
use Rattle.prem_tasks.specs.Broken.{TaskSet, broken}
use Rattle.prem_tasks.specs.Compiled.{placed_in}
use Rattle.prem_tasks.specs.At.{broken_at, placed_by}
use Rattle.prem_tasks.specs.Stops.{Stop, Stops}
use Rattle.prem_tasks.specs.declared.fail.CompileFail.{CompileFail}
use Rattle.prem_compile.specs.CompiledOf.{IsCompiled, IsRefused}
use Rattle.prem_compile.specs.Joined.{IsMade, IsMadeAt}
use Rattle.prem_wcet.specs.Times.{IntervalText, TimesText, times_of}
use Rattle.prem_wcet.specs.declared.timed.IntervalTime.{IntervalTime}
use Rattle.prem_wcet.specs.declared.timed.TaskTimes.{TaskTimes}
use Rattle.prem_wcet.specs.declared.timed.Timed.{Timed}

abbrev pub interval_of : IntervalTime → IntervalText
interval_of i = record { name = name_bytes i.name; stated = i.stated; opens = i.opens }

abbrev pub times_in : TaskTimes → TimesText
times_in x = record { wcet = x.wcet; longest = x.longest; intervals = map interval_of (items_of x.intervals); closed = items_of x.closed }

-- numbers that fit the search for busy periods
pub record AreSmall (x : TimesText) : Type 0 where
  pub some : 1 ≤ x.wcet
  pub wcet : x.wcet ≤ 2 ^ 40
  pub longest : x.longest ≤ 2 ^ 40
  pub closed : All (λ n. n ≤ 2 ^ 40) x.closed

-- a set that breaks no rule is compiled as it is meant, and its times are told
pub record IsTimed (set : TaskSet) (tops : List ℕ) (t : Timed) : Type 0 where
  pub compiled : IsCompiled set t.compiled
  pub times : map times_in (items_of t.tasks) ≡ map (times_of set.plant tops) (placed_in set)
  pub small : AllByRecursion AreSmall (map times_in (items_of t.tasks))

abbrev pub IsTimedAnswer : TaskSet → (tops : List ℕ) → Result Timed CompileFail → Type 0
IsTimedAnswer set tops result = MatchResult result (IsTimed set tops) (IsRefused set)

-- ---- what the stages give to each other

-- at places
pub record IsTimedAt (set : TaskSet) (places : List Extent) (tops : List ℕ) (t : Timed) : Type 0 where
  pub made : IsMadeAt set places t.compiled
  pub times : map times_in (items_of t.tasks) ≡ map (times_of set.plant tops) (placed_by set places)
  pub small : AllByRecursion AreSmall (map times_in (items_of t.tasks))

abbrev pub EndsTimedAt : TaskSet → List Extent → List ℕ → Result Timed Stop → Type 0
EndsTimedAt set places tops result = MatchResult result (IsTimedAt set places tops) (λ stop. Stops stop (broken_at set places))

-- at the default places
pub record IsTimedMade (set : TaskSet) (tops : List ℕ) (t : Timed) : Type 0 where
  pub made : IsMade set t.compiled
  pub times : map times_in (items_of t.tasks) ≡ map (times_of set.plant tops) (placed_in set)
  pub small : AllByRecursion AreSmall (map times_in (items_of t.tasks))

abbrev pub EndsTimed : TaskSet → List ℕ → Result Timed Stop → Type 0
EndsTimed set tops result = MatchResult result (IsTimedMade set tops) (λ stop. Stops stop (broken set))
