-- From where the search for a wait begins, and in how many turns it ends. Shares of the bus are counted in parts of 2^64, rounded down, and
-- time is in cycles.
use Rattle.std.specs.Prelude.{ℕ, zero, suc, ◌≡◌, ◌+◌, ◌-◌, ◌*◌, ◌/◌, ◌<◌, ◌≤◌, ◌^◌, max, min, All, length, List, [], ◌∷◌, take, Option, Some, None}
use Rattle.prem_latency.specs.Wait.{Asking, Closing, IsAsking, IsClosing, IsRoom, requests_in, jobs_in, rest_behind, demand}
pub use Rattle.prem_latency.specs.declared.wait.Search.{Search}

-- ---- where it begins

-- what so many cycles in as many take of the bus
abbrev pub share : (cycles every : ℕ) → ℕ
share cycles every = cycles * 2 ^ 64 / every

-- what the transfers of some devices take of it
abbrev pub shares_asked : List Asking → ℕ
shares_asked [] = 0
shares_asked (d ∷ ds) = share d.cost d.every + shares_asked ds

-- what some tasks keep closed of it
abbrev pub shares_closed : List Closing → ℕ
shares_closed [] = 0
shares_closed (t ∷ ts) = share t.closed t.period + shares_closed ts

-- what they keep closed beside that, since jobs go on that were released before
abbrev pub debts : List Closing → ℕ
debts [] = 0
debts (t ∷ ts) = t.length * t.closed / t.period + debts ts

-- what the requests of a device and of those before it share the bus with, and their own part
abbrev pub used : List Asking → List Closing → ℕ → ℕ
used devices tasks d = shares_asked (take (d + 1) devices) + shares_closed tasks

-- the cycles that they wait for beside that
abbrev pub owed : List Asking → List Closing → ℕ → ℕ
owed devices tasks d = rest_behind devices d + debts tasks

-- in so many cycles the part of the bus that isn't used gives those that are owed; more of these than 2^41 are counted as 2^41, and where
-- nothing is free, one part is counted as free
abbrev pub cycles_for : (owed used : ℕ) → ℕ
cycles_for owed used = max 1 (min owed (2 ^ 41) * 2 ^ 64 / max 1 (2 ^ 64 - used))

-- and there the search begins
abbrev pub first_cycles : List Asking → List Closing → ℕ → ℕ
first_cycles devices tasks d = cycles_for (owed devices tasks d) (used devices tasks d)

-- no fewer cycles are enough
abbrev pub NoneIsBefore : Type 0
NoneIsBefore = (devices : List Asking) (tasks : List Closing) (d cycles : ℕ) → All IsAsking devices → All IsClosing tasks → IsRoom devices tasks d cycles → first_cycles devices tasks d ≤ cycles

-- ---- how far it may be to its end

-- one transfer of each of some devices
abbrev pub costs : List Asking → ℕ
costs [] = 0
costs (d ∷ ds) = d.cost + costs ds

-- what one job of each of some tasks keeps closed, and a cycle for each
abbrev pub closings : List Closing → ℕ
closings [] = 0
closings (t ∷ ts) = t.closed + 1 + closings ts

-- what is owed, with a transfer of each device and a job of each task
abbrev pub owed_once : List Asking → List Closing → ℕ → ℕ
owed_once devices tasks d = owed devices tasks d + costs (take (d + 1) devices) + closings tasks

-- what is used, with each share rounded up
abbrev pub used_up : List Asking → List Closing → ℕ → ℕ
used_up devices tasks d = used devices tasks d + length (take (d + 1) devices) + length tasks

-- where that leaves a part of the bus, so many cycles are enough
abbrev pub RoomIsThere : Type 0
RoomIsThere = (devices : List Asking) (tasks : List Closing) (d : ℕ) → All IsAsking devices → All IsClosing tasks → used_up devices tasks d < 2 ^ 64 →
    IsRoom devices tasks d (owed_once devices tasks d * 2 ^ 64 / (2 ^ 64 - used_up devices tasks d) + 1)

-- ---- which turns it takes

-- the cycles so far behind so many turns, each of which goes on with what the bus has to do in those before it
unfoldable pub cycles_behind : List Asking → List Closing → (d turns : ℕ) → ℕ
cycles_behind devices tasks d zero = first_cycles devices tasks d
cycles_behind devices tasks d (suc turns) = demand devices tasks d (cycles_behind devices tasks d turns)

-- so many turns find these cycles: the last one began with them, and each one before with fewer
pub record Find (devices : List Asking) (tasks : List Closing) (d turns cycles : ℕ) : Type 0 where
  pub some : 1 ≤ turns
  pub last : cycles ≡ cycles_behind devices tasks d (turns - 1)
  pub fewer : (m : ℕ) → m + 1 < turns → cycles_behind devices tasks d m < cycles

-- they pass the most: behind the last one the cycles are more, and each one began with no more
pub record Pass (devices : List Asking) (tasks : List Closing) (d most turns : ℕ) : Type 0 where
  pub more : most < cycles_behind devices tasks d turns
  pub within : (m : ℕ) → m < turns → cycles_behind devices tasks d m ≤ most

-- so many turns, and no other number of them, end with this
abbrev pub EndsWith : List Asking → List Closing → (d most turns : ℕ) → Option ℕ → Type 0
EndsWith devices tasks d most turns (Some cycles) = Find devices tasks d turns cycles
EndsWith devices tasks d most turns None = Pass devices tasks d most turns

-- ---- how many turns it takes

-- the requests of some devices that come at most in so many cycles
abbrev pub requests_all : ℕ → List Asking → ℕ
requests_all cycles [] = 0
requests_all cycles (d ∷ ds) = requests_in d.every cycles + requests_all cycles ds

-- the jobs of some tasks that have a part in so many cycles
abbrev pub jobs_all : ℕ → List Closing → ℕ
jobs_all cycles [] = 0
jobs_all cycles (t ∷ ts) = jobs_in t.period t.length cycles + jobs_all cycles ts

-- the requests and jobs that go into the demand
abbrev pub counted : List Asking → List Closing → (d cycles : ℕ) → ℕ
counted devices tasks d cycles = requests_all cycles (take (d + 1) devices) + jobs_all cycles tasks

-- where the search ends
abbrev pub end_of : (most : ℕ) → Option ℕ → ℕ
end_of most (Some cycles) = cycles
end_of most None = most

-- no more turns than requests and jobs that come between its beginning and its end, and two
abbrev pub AreFew : List Asking → List Closing → (d most : ℕ) → Search → Type 0
AreFew devices tasks d most x = x.turns ≤ 2 + counted devices tasks d (end_of most x.wait) - counted devices tasks d (first_cycles devices tasks d)
