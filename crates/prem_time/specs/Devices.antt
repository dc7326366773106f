-- What is told of the devices that words name: how long their requests wait at most.
use Rattle.std.specs.Prelude.{ℕ, ◌+◌, nat_le, Bool, false, if◌then◌else◌, List, [], ◌∷◌, map, slice_index_or, Option, None, Some}
use Rattle.std.specs.List.{list_all}
use Rattle.std.specs.Str.{bytes_eq}
use Rattle.prem_plant.specs.declared.plant.Plant.{Plant}
use Rattle.prem_plant.specs.declared.plant.Device.{Device}
use Rattle.prem_syntax.specs.Syntax.{Text}
use Rattle.prem_layout.specs.Placed.{Placed}
use Rattle.prem_tasks.specs.Broken.{TaskSet}
use Rattle.prem_tasks.specs.Compiled.{placed_in}
use Rattle.prem_tasks.specs.Lawful.{device_names, has_name}
use Rattle.prem_wcet.specs.Times.{closed_by}
use Rattle.prem_resp.specs.declared.busy.load.Load.{Load}
use Rattle.prem_resp.specs.declared.busy.length.Busy.{Busy}
use Rattle.prem_resp.specs.declared.busy.length.Busy.TheVariants.{Within, Past}
use Rattle.prem_resp.specs.Lines.{all_within}
use Rattle.prem_resp.specs.Fits.{found_in}
use Rattle.prem_latency.specs.declared.wait.Asking.{Asking}
use Rattle.prem_latency.specs.declared.wait.Closing.{Closing}
use Rattle.prem_latency.specs.Wait.{requests_in, top, wait_of}
use Rattle.prem_latency.specs.Sets.{askings_of}
use Rattle.prem_time.specs.declared.devices.Named.{Named}
use Rattle.prem_time.specs.Words.{Distance, most_cycles}
use Rattle.prem_time.specs.Times.{loads_in}

-- ---- the devices that are named

-- what the words say of a device
abbrev pub every_of : List Distance → Text → Option ℕ
every_of [] name = None
every_of (d ∷ ds) name = if bytes_eq d.device name then Some d.every else every_of ds name

-- of each device of a set, in their order
abbrev pub distances_of : List Distance → List Device → List (Option ℕ)
distances_of ds devices = map (λ (x : Device). every_of ds x.name) devices

-- the first device that is named and isn't one of these, if there is one
abbrev pub unknown_in : List Distance → List Device → Option Text
unknown_in [] devices = None
unknown_in (d ∷ ds) devices = if has_name d.device (device_names devices) then unknown_in ds devices else Some d.device

abbrev pub named_before : ℕ → Option ℕ → List Named → List Named
named_before d None more = more
named_before d (Some every) more = record { number = d; every = every } ∷ more

-- the numbers of those that are named, from number d on, and how far apart their requests are
abbrev pub named_from : List Distance → ℕ → List Device → List Named
named_from ds d [] = []
named_from ds d (x ∷ xs) = named_before d (every_of ds x.name) (named_from ds (d + 1) xs)

abbrev pub named_in : List Distance → List Device → List Named
named_in ds devices = named_from ds 0 devices

-- what all devices ask of the bus: one that isn't named asks nothing
abbrev pub askings_in : List Distance → List Device → List Asking
askings_in ds devices = askings_of (distances_of ds devices) devices

-- ---- how long they wait

-- what a task keeps from a device, where a job keeps closed so many cycles to a transfer of such a cost
abbrev pub closing_of : Load → Busy → (closed cost : ℕ) → Closing
closing_of x (Within length) closed cost = record { period = x.period; length = length; closed = closed + cost }
closing_of x Past closed cost = record { period = x.period; length = x.period; closed = closed + cost }

abbrev pub closings_of : List Load → List Busy → (closed : List ℕ) → (cost : ℕ) → List Closing
closings_of [] found closed cost = []
closings_of (x ∷ xs) [] closed cost = []
closings_of (x ∷ xs) (busy ∷ found) [] cost = []
closings_of (x ∷ xs) (busy ∷ found) (c ∷ cs) cost = closing_of x busy c cost ∷ closings_of xs found cs cost

-- how long a request of device number d waits at most, where all tasks are in time
abbrev pub wait_by : List Asking → List Load → List Busy → (closed : List ℕ) → ℕ → Option ℕ
wait_by askings loads found closed d =
    if all_within found then wait_of askings (closings_of loads found closed (top askings d)) d most_cycles else None

-- what the jobs of tasks keep closed to a transfer of such a cost
abbrev pub closed_to : Plant → (cost : ℕ) → List Placed → List ℕ
closed_to p cost placed = map (λ t. closed_by p t cost) placed

-- ---- what is told

pub record DeviceTold : Type 0 where
  pub name : Text
  pub cost : ℕ
  pub every : ℕ
  pub queue : ℕ
  pub wait : Option ℕ

abbrev pub no_device : Device
no_device = record { name = []; queue = 0; cost = 0; lines = 0 }

abbrev pub device_at : List Device → ℕ → Device
device_at devices d = slice_index_or devices d no_device

-- with this distance and this wait
abbrev pub told_with : Device → (every : ℕ) → Option ℕ → DeviceTold
told_with d every wait = record { name = d.name; cost = d.cost; every = every; queue = d.queue; wait = wait }

abbrev pub device_told : List Device → Named → Option ℕ → DeviceTold
device_told devices n wait = told_with (device_at devices n.number) n.every wait

-- there is a wait, and the queue holds as many requests as come in it
abbrev pub is_held : (every queue : ℕ) → Option ℕ → Bool
is_held every queue None = false
is_held every queue (Some wait) = nat_le (requests_in every wait) queue

abbrev pub all_held : List DeviceTold → Bool
all_held ds = list_all (λ (d : DeviceTold). is_held d.every d.queue d.wait) ds

-- ---- a set

-- the waits of a set whose words name some of its devices
abbrev pub wait_in : TaskSet → List Distance → ℕ → Option ℕ
wait_in set ds d =
    wait_by (askings_in ds set.devices) (loads_in set) (found_in (loads_in set)) (closed_to set.plant (top (askings_in ds set.devices) d) (placed_in set)) d

abbrev pub device_in : TaskSet → List Distance → Named → DeviceTold
device_in set ds n = device_told set.devices n (wait_in set ds n.number)

abbrev pub devices_in : TaskSet → List Distance → List DeviceTold
devices_in set ds = map (device_in set ds) (named_in ds set.devices)
