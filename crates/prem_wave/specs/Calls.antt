-- The marked calls of all tasks, counted as their intervals end.
use Rattle.std.specs.Prelude.{◌≡◌, ℕ, zero, suc, ◌+◌, ◌-◌, ◌^◌, ◌<◌, min, if◌then◌else◌, List, [], ◌∷◌, length, slice_index}
use Rattle.prem_cycle.specs.declared.facts.EndedInterval.{EndedInterval}
use Rattle.prem_wave.specs.Signals.{calls_of}

-- each of so many tasks has a count: that of its marked calls among these intervals
pub record AreCounted (tasks : ℕ) (intervals : List EndedInterval) (calls : List ℕ) : Type 0 where
  pub count : length calls ≡ tasks
  pub calls_are : (k : ℕ) → k < tasks → slice_index calls k ≡ calls_of k intervals

-- ---- how they are kept, as far as words of 64 bits go

abbrev pub one_more : ℕ → ℕ
one_more n = min (n + 1) (2 ^ 64 - 1)

-- task k has one more, if it is there
abbrev pub with_call : List ℕ → (k : ℕ) → List ℕ
with_call [] k = []
with_call (n ∷ calls) zero = one_more n ∷ calls
with_call (n ∷ calls) (suc k) = n ∷ with_call calls k

-- behind another interval
abbrev pub counted : EndedInterval → List ℕ → List ℕ
counted i calls = if i.predictable then with_call calls i.task else calls

abbrev pub all_counted : List EndedInterval → List ℕ → List ℕ
all_counted [] calls = calls
all_counted (i ∷ intervals) calls = all_counted intervals (counted i calls)
