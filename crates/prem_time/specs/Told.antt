-- What is told of a compiled set in memory: loads, tasks, devices, and a text.
use Rattle.std.specs.Prelude.{◌≡◌, ◌<◌, ◌≤◌, ◌^◌, ℕ, ◌+◌, ◌*◌, ◌&&◌, All, IfSome, List, [], ◌∷◌, length, map, slice_index_or, Option}
use Rattle.std.specs.List.{AllByRecursion}
use Rattle.prem_list.specs.Sequence.{items_of}
use Rattle.prem_plant.specs.declared.plant.Device.{Device}
use Rattle.prem_image.specs.declared.image.TaskRecord.{TaskRecord}
use Rattle.prem_sound.specs.Script.Scripts.{last_release}
use Rattle.prem_wcet.specs.Times.{TimesText}
use Rattle.prem_wcet.specs.TimedOf.{times_in}
use Rattle.prem_wcet.specs.declared.timed.Timed.{Timed}
use Rattle.prem_resp.specs.declared.busy.load.Load.{Load}
use Rattle.prem_resp.specs.declared.busy.length.Busy.{Busy}
use Rattle.prem_resp.specs.Busy.Busy.{IsLoad}
use Rattle.prem_resp.specs.Fits.{found_in}
use Rattle.prem_resp.specs.Lines.{all_within}
use Rattle.prem_latency.specs.declared.wait.Asking.{Asking}
use Rattle.prem_latency.specs.Wait.{IsAsking, top}
use Rattle.prem_time.specs.declared.devices.Bus.{Bus}
use Rattle.prem_time.specs.declared.devices.Named.{Named}
use Rattle.prem_time.specs.Words.{Distance}
use Rattle.prem_time.specs.Times.{TaskTold}
use Rattle.prem_time.specs.Devices.{DeviceTold, all_held, askings_in, device_told, named_in, wait_by}
use Rattle.prem_time.specs.Lines.{time_text}

-- of each task its period, what a job takes at most, and its longest stretch or interval
abbrev pub loads_told : List TaskRecord → List TimesText → List Load
loads_told [] times = []
loads_told (t ∷ ts) [] = []
loads_told (t ∷ ts) (x ∷ xs) = record { period = t.period; cost = x.wcet; longest = x.longest } ∷ loads_told ts xs

-- of a task its name, the rule's bound, and its marked functions
abbrev pub told_by : TaskRecord → (bound : ℕ) → TimesText → TaskTold
told_by t bound x = record { name = t.name; bound = bound; intervals = x.intervals }

abbrev pub tolds_told : List TaskRecord → (bounds : List ℕ) → List TimesText → List TaskTold
tolds_told [] bounds times = []
tolds_told (t ∷ ts) [] times = []
tolds_told (t ∷ ts) (b ∷ bs) [] = []
tolds_told (t ∷ ts) (b ∷ bs) (x ∷ xs) = told_by t b x ∷ tolds_told ts bs xs

-- as many jobs as a set may state
abbrev pub HasJobs : TaskRecord → Type 0
HasJobs t = t.jobs ≤ 65535

-- for each task its jobs times what one takes at most
abbrev pub work_told : List TaskRecord → List Load → ℕ
work_told [] loads = 0
work_told (t ∷ ts) [] = 0
work_told (t ∷ ts) (x ∷ xs) = t.jobs * x.cost + work_told ts xs

abbrev pub limit_told : List TaskRecord → List Load → ℕ
limit_told tasks loads = last_release tasks + work_told tasks loads

-- ---- devices

-- what is asked of the bus, and who is named, by distances of devices of a set
pub record IsBus (ds : List Distance) (devices : List Device) (b : Bus) : Type 0 where
  pub askings : b.askings.items ≡ askings_in ds devices
  pub named : b.named.items ≡ named_in ds devices

-- a device that is named is there, and its requests are so far apart as words tell
pub record IsNamed (askings : List Asking) (n : Named) : Type 0 where
  pub there : n.number < length askings
  pub some : 1 ≤ n.every
  pub most : n.every ≤ 2 ^ 40

-- few devices, which ask as words tell, and those that are named
pub record AreNamed (b : Bus) : Type 0 where
  pub askings : All IsAsking b.askings.items
  pub few : length b.askings.items ≤ 8
  pub named : AllByRecursion (IsNamed b.askings.items) b.named.items

abbrev pub tops_of : List Asking → List Named → List ℕ
tops_of askings named = map (λ (n : Named). top askings n.number) named

-- what jobs keep closed to number i of the devices that are named
abbrev pub closed_told : List TimesText → ℕ → List ℕ
closed_told times i = map (λ (x : TimesText). slice_index_or x.closed i 0) times

-- a number for this one
pub record IsClosedAt (i : ℕ) (x : TimesText) : Type 0 where
  pub there : i < length x.closed
  pub small : slice_index_or x.closed i 0 ≤ 2 ^ 40

-- numbers for so many devices
pub record HasClosed (n : ℕ) (x : TimesText) : Type 0 where
  pub count : length x.closed ≡ n
  pub small : All (λ c. c ≤ 2 ^ 40) x.closed

-- the waits of devices that are named, from number i of them on
abbrev pub waits_told : List Asking → List Load → List Busy → List TimesText → ℕ → List Named → List (Option ℕ)
waits_told askings loads found times i [] = []
waits_told askings loads found times i (n ∷ ns) = wait_by askings loads found (closed_told times i) n.number ∷ waits_told askings loads found times (i + 1) ns

abbrev pub devices_told : List Device → List Named → List (Option ℕ) → List DeviceTold
devices_told devices [] waits = []
devices_told devices (n ∷ ns) [] = []
devices_told devices (n ∷ ns) (wait ∷ waits) = device_told devices n wait ∷ devices_told devices ns waits

-- a period as long as one of a task may be
abbrev pub IsShort : Load → Type 0
IsShort x = x.period ≤ 2 ^ 32

-- tasks of whose busy periods this is found, and times of each
pub record HasFound (loads : List Load) (found : List Busy) (times : List TimesText) : Type 0 where
  pub checked : All IsLoad loads
  pub short : AllByRecursion IsShort loads
  pub count : length loads ≤ 16
  pub found_is : found ≡ found_in loads
  pub long : length times ≡ length loads

-- requests so far apart as words tell, and a wait that is no longer than is told
pub record IsSpan (every : ℕ) (wait : Option ℕ) : Type 0 where
  pub some : 1 ≤ every
  pub most : every ≤ 2 ^ 40
  pub short : IfSome wait (λ n. n ≤ 2 ^ 40)

-- for each device that is named, a wait
abbrev pub AreTold : List Device → List Named → List (Option ℕ) → Type 0
AreTold devices [] waits = Unit {0}
AreTold devices (n ∷ ns) [] = ⊥
AreTold devices (n ∷ ns) (wait ∷ waits) = (n.number < length devices) × (IsSpan n.every wait × AreTold devices ns waits)

-- ---- a set

abbrev pub times_by : Timed → List TimesText
times_by t = map times_in (items_of t.tasks)

abbrev pub loads_by : Timed → List Load
loads_by t = loads_told (items_of t.compiled.image.tasks) (times_by t)

abbrev pub tolds_by : Timed → List TaskTold
tolds_by t = tolds_told (items_of t.compiled.image.tasks) (items_of t.compiled.jobs) (times_by t)

abbrev pub waits_by : Bus → Timed → List (Option ℕ)
waits_by b t = waits_told b.askings.items (loads_by t) (found_in (loads_by t)) (times_by t) 0 b.named.items

abbrev pub devices_by : List Device → Bus → Timed → List DeviceTold
devices_by devices b t = devices_told devices b.named.items (waits_by b t)

abbrev pub text_by : List Device → Bus → Timed → List ℕ
text_by devices b t =
    time_text (tolds_by t) (loads_by t) (found_in (loads_by t)) (devices_by devices b t) (limit_told (items_of t.compiled.image.tasks) (loads_by t))
    (all_within (found_in (loads_by t)) && all_held (devices_by devices b t))

-- there is a bound and a load for each task, of which a busy period can be found
pub record HasLoads (t : Timed) : Type 0 where
  pub bounds : length (items_of t.compiled.jobs) ≡ length (items_of t.compiled.image.tasks)
  pub times : length (items_of t.tasks) ≡ length (items_of t.compiled.image.tasks)
  pub loads : All IsLoad (loads_by t)
  pub short : AllByRecursion IsShort (loads_by t)
  pub count : length (items_of t.compiled.image.tasks) ≤ 16
  pub jobs : All HasJobs (items_of t.compiled.image.tasks)

-- and there are numbers for each device that is named
pub record HasDevices (devices : List Device) (b : Bus) (t : Timed) : Type 0 where
  pub named : AreNamed b
  pub count : length b.askings.items ≡ length devices
  pub closed : AllByRecursion (HasClosed (length b.named.items)) (times_by t)
