-- What is promised to the devices that words name: how long their requests wait at most, where that is known and none of them is dropped.
use Rattle.std.specs.Prelude.{ℕ, if◌then◌else◌, List, [], ◌∷◌, map, Option, None}
use Rattle.prem_plant.specs.declared.plant.Device.{Device}
use Rattle.prem_tasks.specs.Broken.{TaskSet}
use Rattle.prem_wcet.specs.declared.timed.Timed.{Timed}
use Rattle.prem_time.specs.declared.devices.Bus.{Bus}
use Rattle.prem_time.specs.declared.devices.Named.{Named}
use Rattle.prem_time.specs.declared.promises.Promise.{Promise}
use Rattle.prem_time.specs.Words.{Distance}
use Rattle.prem_time.specs.Devices.{device_at, is_held, named_in, wait_in}
use Rattle.prem_time.specs.Told.{waits_by}

-- a wait, where the queue holds as many requests as come in it
abbrev pub wait_held : (every queue : ℕ) → Option ℕ → Option ℕ
wait_held every queue wait = if is_held every queue wait then wait else None

abbrev pub promise_told : Device → Named → Option ℕ → Promise
promise_told d n wait = record { device = n.number; every = n.every; wait = wait_held n.every d.queue wait }

abbrev pub promises_told : List Device → List Named → List (Option ℕ) → List Promise
promises_told devices [] waits = []
promises_told devices (n ∷ ns) [] = []
promises_told devices (n ∷ ns) (wait ∷ waits) = promise_told (device_at devices n.number) n wait ∷ promises_told devices ns waits

-- by the times of a set in memory
abbrev pub promises_by : List Device → Bus → Timed → List Promise
promises_by devices b t = promises_told devices b.named.items (waits_by b t)

-- ---- a set

-- of a device that is named
abbrev pub promise_in : TaskSet → List Distance → Named → Promise
promise_in set ds n = promise_told (device_at set.devices n.number) n (wait_in set ds n.number)

-- of all, in the order of the set
abbrev pub promises_in : TaskSet → List Distance → List Promise
promises_in set ds = map (promise_in set ds) (named_in ds set.devices)
