-- Worked loads, and the lengths of their busy periods, computed.
use Rattle.std.specs.Prelude.{All}
use Rattle.std.proofs.Common.{◌≡◌, refl, ℕ, zero, suc, ◌≤◌, arith, List, [], ◌∷◌, Some, None}
use Rattle.prem_resp.specs.declared.busy.load.Load.{Load}
use Rattle.prem_resp.specs.declared.busy.length.Busy.TheVariants.{Within, Past}
use Rattle.prem_resp.specs.Busy.Busy.{IsLoad, blocking, earliest}
use Rattle.prem_resp.specs.Busy.Found.{IsFound}
use Rattle.prem_resp.proofs.BusyLemmas.Steps.{found, past}

-- ---- one task

abbrev load : ℕ → ℕ → ℕ → Load
load period cost longest = record { period = period; cost = cost; longest = longest }

one : (p c l : ℕ) → 1 ≤ p → 1 ≤ c → c ≤ 1000 → l ≤ 1000 → IsLoad (load p c l)
one p c l h k m n = record { period = h; cost = k; small = omega (arith, m); longest = omega (arith, n) }

abbrev loads_s : List Load
loads_s = load 1000 975 511 ∷ []

s_good : All IsLoad loads_s
s_good zero d lt = one 1000 975 511 (omega arith) (omega arith) (omega arith) (omega arith)
s_good (suc k) d lt = absurd (omega (arith, lt))

s_length : IsFound loads_s 0 (Within 975)
s_length = found loads_s 0 1 975 s_good refl refl (omega arith) (omega arith)

s_blocks : blocking loads_s 0 ≡ 0
s_blocks = refl

-- ---- two tasks, of which the first has some period

abbrev two : ℕ → List Load
two period = load period 975 511 ∷ load 10000 975 511 ∷ []

two_good : (period : ℕ) → 1 ≤ period → All IsLoad (two period)
two_good period some zero d lt = one period 975 511 some (omega arith) (omega arith) (omega arith)
two_good period some (suc zero) d lt = one 10000 975 511 (omega arith) (omega arith) (omega arith) (omega arith)
two_good period some (suc (suc k)) d lt = absurd (omega (arith, lt))

two_blocks : blocking (two 10000) 0 ≡ 511
two_blocks = refl

first_length : IsFound (two 10000) 0 (Within 1486)
first_length = found (two 10000) 0 1 1486 (two_good 10000 (omega arith)) refl refl (omega arith) (omega arith)

second_length : IsFound (two 10000) 1 (Within 1950)
second_length = found (two 10000) 1 2 1950 (two_good 10000 (omega arith)) refl refl (omega arith) (omega arith)

-- just long enough
first_fits : IsFound (two 1486) 0 (Within 1486)
first_fits = found (two 1486) 0 1 1486 (two_good 1486 (omega arith)) refl refl (omega arith) (omega arith)

second_waits : IsFound (two 1486) 1 (Within 2925)
second_waits = found (two 1486) 1 3 2925 (two_good 1486 (omega arith)) refl refl (omega arith) (omega arith)

-- one cycle less is too short
first_late : IsFound (two 1485) 0 Past
first_late = past (two 1485) 0 1 (two_good 1485 (omega arith)) (omega arith)

second_still : IsFound (two 1485) 1 (Within 2925)
second_still = found (two 1485) 1 3 2925 (two_good 1485 (omega arith)) refl refl (omega arith) (omega arith)

-- ---- where the search begins

-- two tasks that need the whole processor: the second has its whole period
abbrev halves : List Load
halves = load 1000 500 10 ∷ load 1000 500 10 ∷ []

halves_begin : earliest halves 1 ≡ Some 1000
halves_begin = refl

-- more than the processor has: behind the period at once
over_begins : earliest (load 1000 999 10 ∷ load 4000000000 5000000 10 ∷ []) 1 ≡ Some 4999999999
over_begins = refl

-- nothing is left
none_begins : earliest (load 1000 1000 10 ∷ load 4000000000 1 10 ∷ []) 1 ≡ None
none_begins = refl
