-- The bus, cycle by cycle: what each cycle is for, which requests have come, and which have been transferred. The first devices in order are a
-- level, whose requests go before those of the devices behind it. Time is in cycles.
use Rattle.std.specs.Prelude.{◌≡◌, ℕ, zero, suc, ◌+◌, ◌*◌, ◌<◌, ◌≤◌, ◌==◌, ◌&&◌, Bool, false, List, length, slice_index_or}
use Rattle.prem_sound.specs.Script.Scripts.{sum_below}
use Rattle.prem_resp.specs.Busy.Schedule.{one_if}
use Rattle.prem_latency.specs.Wait.{Asking, Closing, requests_in, jobs_in, top, rest_behind, IsRoom}

-- ---- a level of devices, and tasks

-- of each device the cycles of a transfer, and the least distance between two requests; the longest transfer, and what may be left of a
-- transfer of a device behind the level; of each task its period, the cycles behind its release in which each job has ended, and the cycles
-- of a job in which the bus is closed
pub record Level : Type 0 where
  pub devices : ℕ
  pub cost : ℕ → ℕ
  pub every : ℕ → ℕ
  pub longest : ℕ
  pub behind : ℕ
  pub tasks : ℕ
  pub period : ℕ → ℕ
  pub length : ℕ → ℕ
  pub closed : ℕ → ℕ

-- the idle time that a release ends is closed for so long as the longest transfer
pub record IsLevel (x : Level) : Type 0 where
  pub distances : (j : ℕ) → j < x.devices → 1 ≤ x.every j
  pub periods : (k : ℕ) → k < x.tasks → 1 ≤ x.period k
  pub idle : (k : ℕ) → k < x.tasks → x.longest ≤ x.closed k

-- ---- timelines

-- what a cycle is for: a transfer of a device of the level; one of a device behind it; nothing, since a job of a task keeps the bus closed;
-- or no request of the level waits
pub data Deed : Type 0 where
  Carries : (device : ℕ) → Deed
  Behind : Deed
  Shut : (task job : ℕ) → Deed
  Free : Deed

-- what each cycle is for; and of each device, before each cycle, how many requests have come, how many have found room, and how many have
-- been transferred
pub record Timeline : Type 0 where
  pub does : ℕ → Deed
  pub came : (device cycle : ℕ) → ℕ
  pub asked : (device cycle : ℕ) → ℕ
  pub served : (device cycle : ℕ) → ℕ

abbrev pub is_carried : ℕ → Deed → Bool
is_carried j (Carries i) = i == j
is_carried j Behind = false
is_carried j (Shut k m) = false
is_carried j Free = false

abbrev pub is_shut : (task job : ℕ) → Deed → Bool
is_shut k m (Carries i) = false
is_shut k m Behind = false
is_shut k m (Shut task job) = (task == k) && (job == m)
is_shut k m Free = false

-- the cycles before this one that are for transfers of a device
abbrev pub carried : Timeline → (device cycle : ℕ) → ℕ
carried s j zero = 0
carried s j (suc t) = carried s j t + one_if (is_carried j (s.does t))

-- the cycles before this one that a job keeps closed
abbrev pub shut : Timeline → (task job cycle : ℕ) → ℕ
shut s k m zero = 0
shut s k m (suc t) = shut s k m t + one_if (is_shut k m (s.does t))

-- a transfer of a device behind the level has begun before, when no request of the level waited, and doesn't last any longer
pub record GoesOn (x : Level) (s : Timeline) (t : ℕ) : Type 0 where
  pub begun : ℕ
  pub before : begun < t
  pub lasts : t ≤ begun + x.behind
  pub free : (j : ℕ) → j < x.devices → s.asked j (suc begun) ≤ s.served j (suc begun)

-- a job of a task keeps the bus closed: between its release and its end, in the first cycle behind that, or where a transfer would pass its
-- release, and the one before it was released
pub record IsShut (x : Level) (k m t : ℕ) : Type 0 where
  pub there : k < x.tasks
  pub near : m * x.period k < t + x.longest
  pub behind : m * x.period k ≤ t + x.period k
  pub within : t ≤ m * x.period k + x.length k

-- a cycle in which a request of the level waits is for something
abbrev pub IsFor : Level → Timeline → ℕ → Deed → Type 0
IsFor x s t (Carries j) = j < x.devices
IsFor x s t Behind = GoesOn x s t
IsFor x s t (Shut k m) = IsShut x k m t
IsFor x s t Free = ⊥

-- the timeline of so many cycles
pub record IsTimeline (x : Level) (s : Timeline) (cycles : ℕ) : Type 0 where
  pub apart : (j a n : ℕ) → j < x.devices → a + n ≤ cycles → s.came j (a + n) ≤ s.came j a + requests_in (x.every j) n
  pub some : (j a n : ℕ) → j < x.devices → a + n ≤ cycles → s.asked j (a + n) + s.came j a ≤ s.asked j a + s.came j (a + n)
  pub keeps : (j t : ℕ) → j < x.devices → s.asked j t ≤ s.asked j (suc t)
  pub none : (j : ℕ) → j < x.devices → s.asked j 0 ≡ 0
  pub grows : (j t : ℕ) → j < x.devices → s.served j t ≤ s.served j (suc t)
  pub whole : (j t : ℕ) → j < x.devices → t ≤ cycles → x.cost j * s.served j t ≤ carried s j t
  pub idle : (j t : ℕ) → j < x.devices → t ≤ cycles → s.asked j t ≤ s.served j t → carried s j t ≤ x.cost j * s.asked j t
  pub part : (j t : ℕ) → j < x.devices → t ≤ cycles → s.served j t < s.asked j t → carried s j t < x.cost j * s.served j t + x.cost j
  pub busy : (j t : ℕ) → j < x.devices → t < cycles → s.served j (suc t) < s.asked j (suc t) → IsFor x s t (s.does t)
  pub shuts : (k m : ℕ) → k < x.tasks → shut s k m cycles ≤ x.closed k

-- ---- the laws

-- so many cycles are enough for what is left of a transfer behind the level, the transfers that the level asks for in them, and what the
-- tasks keep closed
pub record IsEnough (x : Level) (cycles : ℕ) : Type 0 where
  pub some : 1 ≤ cycles
  pub most : x.behind + sum_below x.devices (λ j. requests_in (x.every j) cycles * x.cost j) + sum_below x.tasks (λ k. jobs_in (x.period k) (x.length k) cycles * x.closed k) ≤ cycles

-- then each request of the level that has found room in a cycle has been transferred so many cycles behind it
abbrev pub RequestsEndInTime : Type 0
RequestsEndInTime =
    (x : Level) (s : Timeline) (cycles wait : ℕ) → IsLevel x → IsTimeline x s cycles → IsEnough x wait →
    (j t : ℕ) → j < x.devices → t + wait ≤ cycles → s.asked j (suc t) ≤ s.served j (t + wait)

-- and where one comes, fewer wait or are on the bus than come in so many cycles
abbrev pub QueuesHaveRoom : Type 0
QueuesHaveRoom =
    (x : Level) (s : Timeline) (cycles wait : ℕ) → IsLevel x → IsTimeline x s cycles → IsEnough x wait →
    (j t : ℕ) → j < x.devices → t < cycles → s.came j t < s.came j (suc t) → s.asked j t < s.served j t + requests_in (x.every j) wait

-- ---- of lists

abbrev pub no_asking : Asking
no_asking = record { cost = 0; every = 1 }

abbrev pub asking_at : List Asking → ℕ → Asking
asking_at devices j = slice_index_or devices j no_asking

abbrev pub no_closing : Closing
no_closing = record { period = 1; length = 0; closed = 0 }

abbrev pub closing_at : List Closing → ℕ → Closing
closing_at tasks k = slice_index_or tasks k no_closing

-- the level of a device and those before it
abbrev pub level_of : List Asking → List Closing → ℕ → Level
level_of devices tasks d = record {
  devices = d + 1;
  cost = λ j. (asking_at devices j).cost;
  every = λ j. (asking_at devices j).every;
  longest = top devices d;
  behind = rest_behind devices d;
  tasks = length tasks;
  period = λ k. (closing_at tasks k).period;
  length = λ k. (closing_at tasks k).length;
  closed = λ k. (closing_at tasks k).closed;
}

-- the length of its busy period is enough
abbrev pub LevelsAreEnough : Type 0
LevelsAreEnough =
    (devices : List Asking) (tasks : List Closing) (d cycles : ℕ) → d < length devices → IsRoom devices tasks d cycles → IsEnough (level_of devices tasks d) cycles
